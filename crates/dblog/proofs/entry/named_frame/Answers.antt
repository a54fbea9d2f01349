use Rattle.std.proofs.Common.{◌≡◌, false, ltb, rules, tests, arith, sym, ap, length, ◌∙◌, Some}
use Rattle.std.specs.Option.{is_some}
use Rattle.std.proofs.lemmas.Bool.Decides.{nat_tests}
use Rattle.std.proofs.lemmas.List.Sorted.{IsPartitionPoint-from_clause, IsPartitionedBy-ltb}
use Rattle.dblog.proofs.Named.{no_entry, rising_pages, searched_at, searched_none}
use Rattle.dblog.specs.declared.entry.Entry.{Entry}
use Rattle.dblog.proofs.entry.named_frame.Goals as goal

pub returns-in-Some : goal.returns-in-Some
returns-in-Some c =
    let k = c.in-Some.ensures.lookup in
    ap (λ n. Some n) c.frame.ensures ∙ sym (searched_at c.args.page c.partition_point-place.result c.args.entries.now c.in-Some.entry.now c.in-Some.entry.now
    c.requires k.1 k.3.0 (sym c.page.ensures ∙ sym c.from.ensures ∙ c.if-from-page.true))

pub returns-in_default : goal.returns-in_default
returns-in_default c =
    let es = c.args.entries.now in
    let place = c.partition_point-place.result in
    let k = c.in-Some.ensures.lookup in
    let point = IsPartitionPoint-from_clause (λ (e : Entry). ltb e.page c.args.page) es place c.partition_point-place.ensures.partitioned
    (IsPartitionedBy-ltb (λ (e : Entry). e.page) es c.args.page (rising_pages es c.requires)) (λ a r q k. search (rules, tests)) in
    sym (searched_none c.args.page place es c.requires point.0 point.1 (λ l e. c.if-from-page.false (c.from.ensures ∙ c.page.ensures
    ∙ ap (λ (x : Entry). x.page) (k.3.1 no_entry) ∙ e)))

pub returns-in_default-2 : goal.returns-in_default-2
returns-in_default-2 c =
    let es = c.args.entries.now in
    let place = c.partition_point-place.result in
    let past : ltb place (length es) ≡ false = sym c.get.ensures.lookup.0 ∙ ap (λ o. is_some o) c.in_default.is in
    let point = IsPartitionPoint-from_clause (λ (e : Entry). ltb e.page c.args.page) es place c.partition_point-place.ensures.partitioned
    (IsPartitionedBy-ltb (λ (e : Entry). e.page) es c.args.page (rising_pages es c.requires)) (λ a r q k. search (rules, tests)) in
    sym (searched_none c.args.page place es c.requires point.0 point.1 (λ l e. grind (arith, nat_tests)))

use Rattle.dbscan.proofs.Common.{sym, ap, ◌∙◌, subst, arith, map_page_of, Geometry, HasMapFor}
use Rattle.dbscan.proofs.MapPlaces.{place_of, no_entry, entry_read}
use Rattle.dbscan.proofs.end_pass.entry_of.Goals as goal

pub overflow_sub-page : goal.overflow_sub-page
overflow_sub-page g c = omega (arith, (place_of c.geometry.result c.args.page c.in-Some.map_page (sym c.map_page_of.ensures ∙ c.in-Some.is)).before)

pub stored_entry-requires-clause-first : goal.stored_entry-requires-clause-first
stored_entry-requires-clause-first g c =
    omega (arith, (place_of c.geometry.result c.args.page c.in-Some.map_page (sym c.map_page_of.ensures ∙ c.in-Some.is)).before)

pub stored_entry-requires-clause-room : goal.stored_entry-requires-clause-room
stored_entry-requires-clause-room g c =
    omega (
      arith,
      (place_of c.geometry.result c.args.page c.in-Some.map_page (sym c.map_page_of.ensures ∙ c.in-Some.is)).room,
      c.geometry.ensures.range.usable.1,
      ap (λ (g : Geometry). g.page_size) c.geometry.ensures.value,
      c.page.ensures.len,
    )

pub returns-in-None : goal.returns-in-None
returns-in-None g c = λ file e h. no_entry file c.args.page
    (ap (λ g. map_page_of g c.args.page) (sym (c.geometry.ensures.value ∙ e)) ∙ sym c.map_page_of.ensures ∙ c.in-None.is)

pub returns-in-Some : goal.returns-in-Some
returns-in-Some g c = λ file e h. entry_read file c.args.bench.now.chain c.args.page c.in-Some.map_page _
    (ap (λ g. map_page_of g c.args.page) (sym (c.geometry.ensures.value ∙ e)) ∙ sym c.map_page_of.ensures ∙ c.in-Some.is)
    (subst (λ g. HasMapFor file g c.args.page c.args.bench.now.chain) e h)
    (rw c.page.ensures.bytes at c.stored_entry.ensures.kind) (rw c.page.ensures.bytes at c.stored_entry.ensures.number)

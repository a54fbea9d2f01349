use Rattle.std.proofs.Common.{◌++◌, [], length, sym, ap, ◌∙◌}
use Rattle.dbformat.specs.Header.{stated_pages, greatest_root, freelist_count}
use Rattle.dbformat.proofs.HeaderPrefix.{stated_pages_within, greatest_root_within, freelist_count_within}
use Rattle.dblines.proofs.Writing.{of_all, of_as, of_then, wrote_nothing}
use Rattle.dbexplain.specs.Below.{after_end_text, header_line, own_line, place_line, value_page}
use Rattle.dbexplain.specs.declared.owners.Below.TheVariants as below
use Rattle.dbexplain.proofs.Below.{lines_of, value_line}
use Rattle.dbexplain.proofs.owners.Owners.put_below.Goals as goal

pub returns-in-Nothing : goal.returns-in-Nothing
returns-in-Nothing g c = record {
  all = [];
  wrote = wrote_nothing c.args.writer.now;
  is = λ file V h. lines_of file V c.args.fault.now below.Nothing (sym c.in-Nothing.is ∙ c.below_of.ensures);
}

pub returns-in-StatedPages : goal.returns-in-StatedPages
returns-in-StatedPages g c =
    of_as (λ file V h. c.as_slice.ensures.value ∙ c.header_line.ensures
    ∙ ap header_line (c.stated_pages.ensures ∙ ap stated_pages h.header.begins ∙ stated_pages_within file)
    ∙ lines_of file V c.args.fault.now below.StatedPages (sym c.in-StatedPages.is ∙ c.below_of.ensures)) (of_all c.put.ensures)

pub returns-in-GreatestRoot : goal.returns-in-GreatestRoot
returns-in-GreatestRoot g c =
    of_as (λ file V h. c.as_slice-in-GreatestRoot.ensures.value ∙ c.header_line-in-GreatestRoot.ensures
    ∙ ap header_line (c.greatest_root.ensures ∙ ap greatest_root h.header.begins ∙ greatest_root_within file)
    ∙ lines_of file V c.args.fault.now below.GreatestRoot (sym c.in-GreatestRoot.is ∙ c.below_of.ensures)) (of_all c.put-in-GreatestRoot.ensures)

pub returns-in-FreelistCount : goal.returns-in-FreelistCount
returns-in-FreelistCount g c =
    of_as (λ file V h. c.as_slice-in-FreelistCount.ensures.value ∙ c.header_line-in-FreelistCount.ensures
    ∙ ap header_line (c.freelist_count.ensures ∙ ap freelist_count h.header.begins ∙ freelist_count_within file)
    ∙ lines_of file V c.args.fault.now below.FreelistCount (sym c.in-FreelistCount.is ∙ c.below_of.ensures)) (of_all c.put-in-FreelistCount.ensures)

pub returns-in-Own : goal.returns-in-Own
returns-in-Own g c =
    of_as (λ file V h. lines_of file V c.args.fault.now below.Own (sym c.in-Own.is ∙ c.below_of.ensures)) c.put_own.ensures

pub returns-in-Outside : goal.returns-in-Outside
returns-in-Outside g c =
    let f = c.args.fault.now in
    of_as (λ file V h. ap (λ w. own_line file V f ++ w) (c.as_slice-in-Outside.ensures.value ∙ c.after_end_line.ensures
    ∙ ap (after_end_text c.geometry.result c.file_len.result) c.named_page.ensures
    ∙ ap (λ n. after_end_text c.geometry.result n (value_page f.value)) (c.file_len.ensures ∙ h.header.whole)
    ∙ ap (λ s. after_end_text s (length file) (value_page f.value)) (c.geometry.ensures.shape ∙ h.header.shape))
    ∙ lines_of file V f below.Outside (sym c.in-Outside.is ∙ c.below_of.ensures)) (of_then c.put_own-in-Outside.ensures (of_all c.put-in-Outside.ensures))

pub returns-in-Both : goal.returns-in-Both
returns-in-Both g c =
    let f = c.args.fault.now in
    of_as (λ file V h. ap (λ w. own_line file V f ++ w) (ap (place_line file V) c.value_page.ensures ∙ value_line file V f.value _ h.header.shape)
    ∙ lines_of file V f below.Both (sym c.in-Both.is ∙ c.below_of.ensures)) (of_then c.put_own-in-Both.ensures c.put_page.ensures)

pub returns-in-Entry : goal.returns-in-Entry
returns-in-Entry g c =
    of_as (λ file V h. lines_of file V c.args.fault.now below.Entry (sym c.in-Entry.is ∙ c.below_of.ensures))
    (of_then c.put_own-in-Entry.ensures c.put_wanted.ensures)

use Rattle.std.proofs.Common.{◌≡◌, ◌+◌, ◌++◌, codes, sym, ap, ap₂, ◌∙◌}
use Rattle.dbexplain.proofs.Common.{geometry, stated_pages, Geometry, indented}
use Rattle.dbformat.proofs.HeaderPrefix.{stated_pages_within}
use Rattle.dbexplain.specs.Explained.{missing_line}
use Rattle.dbexplain.specs.Summary.{pages_text}
use Rattle.dbexplain.proofs.missing.put_missing.Goals as goal

pub returns-in-H06 : goal.returns-in-H06
returns-in-H06 g c = record {
  all = _;
  wrote = c.put.ensures;
  is = λ file V o. (
      let pages : c.geometry.result.pages ≡ (geometry file).pages = ap (λ (g : Geometry). g.pages) (c.geometry.ensures.shape ∙ o.header.shape) in
      let first : c.from-first.result + 1 ≡ (geometry file).pages + 1 = ap (λ n. n + 1) (c.from-first.ensures ∙ pages) in
      let last : c.from.result ≡ stated_pages file = c.from.ensures ∙ c.stated_pages.ensures ∙ ap stated_pages o.header.begins ∙ stated_pages_within file in
      c.as_slice.ensures.value ∙ c.missing_text-line.ensures ∙ ap₂ (λ a b. indented (pages_text a b ++ codes " missing")) first last
      ∙ ap (missing_line file) (sym c.in-H06.is));
}

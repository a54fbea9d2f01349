use Rattle.std.proofs.Common.{◌≡◌, ◌&&◌, [], true, false, refl, sym, ap, ap₂, arith, ◌∙◌}
use Rattle.std.specs.Prelude.{nat_le}
use Rattle.std.proofs.lemmas.Bool.Decides.{nat_tests}
use Rattle.std.proofs.lemmas.Bool.{and_from}
use Rattle.dbexplain.proofs.Common.{geometry, is_page, tree_of_row}
use Rattle.dblines.proofs.Writing.{wrote_nothing}
use Rattle.dbscan.specs.Texts.{tree_text}
use Rattle.dbexplain.specs.Below.{page_place_line}
use Rattle.dbexplain.proofs.Below.{known_trees}
use Rattle.dbexplain.proofs.PagePieces.{page_pieces}
use Rattle.dbexplain.proofs.owners.Owners.put_page.Goals as goal
use Rattle.dbexplain.proofs.owners.Owners.put_page.Goals.{then-page-eq0-via-then-page-eq0, then-page-eq0-via-else-page-eq0+then-page-shape}

pub returns-then-page-eq0 : goal.returns-then-page-eq0
returns-then-page-eq0 g c =
    let p = c.args.page in
    let n = c.geometry-shape.result.pages in
    let off : is_page c.geometry-shape.result p ≡ false = elim c.then-page-eq0.branch [
      | then-page-eq0-via-then-page-eq0 w ↦ ap (λ b. b && nat_le p n) (let t : nat_le 1 p ≡ false = grind (arith, nat_tests, w.if-page-eq0.true) in t)
      | then-page-eq0-via-else-page-eq0+then-page-shape w ↦
          ap₂ (λ a b. a && b) (let t : nat_le 1 p ≡ true = grind (arith, nat_tests, w.if-page-eq0.false) in t)
          (let t : nat_le p n ≡ false = grind (arith, nat_tests, w.if-page-shape.true) in t)
    ] in record {
      all = [];
      wrote = wrote_nothing c.args.writer.now;
      is = λ file V h.
          let e : is_page (geometry file) p ≡ false = sym (ap (λ g. is_page g p) (c.geometry-shape.ensures.shape ∙ h.header.shape)) ∙ off in rw e refl;
    }

pub returns : goal.returns
returns g c =
    let p = c.args.page in
    let n = c.geometry-shape.result.pages in
    let first : nat_le 1 p ≡ true = grind (arith, nat_tests, c.if-page-eq0.false) in
    let last : nat_le p n ≡ true = grind (arith, nat_tests, c.if-page-shape.false) in
    let tree = tree_of_row c.names.result.encoding c.names.result.roots.now.rows in record {
      all = page_place_line c.geometry-shape.result tree p c.place_of-place.result c.start_of.result;
      wrote = rw (page_pieces c.geometry-shape.result tree p c.place_of-place.result c.start_of.result (and_from (nat_le 1 p) (nat_le p n) first last)) at
          (rw (c.as_slice.ensures.value, c.as_slice-2.ensures.value, c.page_front-front.ensures, c.place_end-end.ensures, c.place_tree-tree.ensures) at
          c.put_line.ensures);
      is = λ file V h.
          ap₂ (λ g tree. page_place_line g tree p c.place_of-place.result c.start_of.result) (c.geometry-shape.ensures.shape ∙ h.header.shape)
          (known_trees file V c.args.self.now.header.now c.names.result.roots.now.rows c.names.result.encoding h.header
          (ap (λ r. r.rows) c.names.ensures.roots ∙ h.rows) c.names.ensures.encoding)
          ∙ ap₂ (page_place_line (geometry file) (tree_text file V) p) (c.place_of-place.ensures.visit file V h.survey h.marks)
          (c.start_of.ensures file V h.survey h.marks h.trees);
    }

use Rattle.std.proofs.Common.{rules, ◌≡◌, ℕ, ◌+◌, ◌-◌, ◌&&◌, not, List, ◌++◌, length, count_by, map, ap, ap₂, subst, ◌∙◌}
use Rattle.std.specs.Prelude.{filter, flat_map}
use Rattle.std.specs.List.{range_with_len}
use Rattle.dbformat.specs.File.{geometry}
use Rattle.dbformat.specs.FixedPages.{geometry_of}
use Rattle.dbformat.specs.Header.{encoding}
use Rattle.dbformat.specs.Report.{faults}
use Rattle.dbformat.specs.SchemaRow.{SchemaRow}
use Rattle.dbformat.specs.Starts.{start_at}
use Rattle.dbformat.specs.declared.Geometry.{Geometry}
use Rattle.dbinjuries.specs.Bits.{has_bit}
use Rattle.dbscan.proofs.PageMarks.{place_is}
use Rattle.dbscan.specs.Roots.{Listed, listed_rows}
use Rattle.dbsource.specs.HeaderBytes.{HeaderBytes}
use Rattle.dbscan.specs.Texts.{tree_of_row}
use Rattle.dbpicture.specs.Names.{short_text}
use Rattle.dbpicture.specs.Keeping.{AreNoted, marked_place, shown_tree}
use Rattle.dbpicture.specs.Faults.{injury_signs, fault_signs, is_weak, page_shows, signs_of, with_sign}
use Rattle.dbpicture.specs.declared.faults.Sign.{Sign}
use Rattle.dbpicture.specs.declared.faults.Sign.TheVariants.{Blank, Faulty, Framed, Zeros}
use Rattle.dbpicture.specs.Grids.{grid_of, outside_by}
use Rattle.dbpicture.specs.Legends.{legend_lines}
use Rattle.dbpicture.specs.Owners.{is_one_of}
use Rattle.dbpicture.specs.Pictures.{map_picture, outside_of, picture_text, stated_of}
use Rattle.dbpicture.specs.Tallies.{largest_of, largest_trees, pages_at, PagesTallied, tally_of}
use Rattle.dblines.proofs.Writing.{put_written}
use Rattle.dbpicture.proofs.Pictured.{known_trees, same_count}
use Rattle.dbpicture.proofs.drawing.put_map.Goals as goal

pub returns : goal.returns
unfolding map_picture
returns g c =
    let drawn = c.draw_picture.ensures.wrote in
    let same = drawn.same_out in
    let k : c.out-1.given.0 ≡ c.draw_picture.new.writer.out.now = search (rules, same) in
    record {
      all = c.draw_picture.ensures.all;
      is = λ file V known.
          let desk = known.desk in
          let has = known.kept in
          let notes = c.note_listing-blank.new.notes in
          let shape = c.geometry-geometry.ensures.shape ∙ desk.header.shape in
          let here : c.geometry-geometry.result.pages ≡ (geometry file).pages = ap (λ (s : Geometry). s.pages) shape in
          let zeros = ap (λ n. filter (has_bit c.args.kept.now.listing.zeros) (range_with_len 1 n)) here ∙ has.zeros in
          let blanks = ap (λ n. filter (has_bit c.args.kept.now.listing.blank) (range_with_len 1 n)) here ∙ has.blank in
          let noted : AreNoted (geometry file).pages (signs_of file V) notes =
          subst (λ (l : List (ℕ × Sign)). AreNoted (geometry file).pages l notes)
          (λ i. flat_map fault_signs (faults file V) ++ flat_map injury_signs (has.listing.listed i) ++ with_sign Zeros (zeros i) ++ with_sign Blank (blanks i))
          (c.note_listing-blank.ensures.noted (geometry file).pages _ has.notes) in
          let blank = c.note_listing-blank.ensures.count ∙ ap (λ (ps : List ℕ). length ps) blanks in
          let marks = c.marks-marks.ensures ∙ desk.marks in
          let tally = c.count.ensures file V (record { survey = desk.survey; marks = marks; trees = has.trees }) in
          let kept : List SchemaRow = c.roots-roots.result.now.rows in
          let rows : kept ≡ listed_rows file V = ap (λ (l : Listed). l.rows) c.roots-roots.ensures ∙ desk.rows in
          let largest : c.largest-largest.result.items ≡ largest_of file V = c.largest-largest.ensures
          ∙ ap₂ (λ (t : PagesTallied) n. largest_trees (pages_at t.starts) n 12) tally
          (ap (λ n. n + 1) c.len.ensures.count ∙ ap (λ (rows : List SchemaRow). length rows + 1) rows) in
          let stated = c.stated_pages.ensures ∙ ap (λ (h : HeaderBytes). stated_of h.bytes) c.header-header.ensures.value
          ∙ ap stated_of desk.header.begins in
          let len = c.file_len.ensures ∙ ap (λ (h : HeaderBytes). h.file_len) c.header-header.ensures.value ∙ desk.header.whole in
          let outside : c.of-outside.result ≡ outside_of file = c.of-outside.ensures ∙ (λ i. outside_by (shape i) (stated i) (len i)) in
          let grid = c.new-grid.ensures ∙ ap₂ grid_of (ap (λ (s : Geometry). s.pages) shape) outside in
          let shorten : (ℕ → List ℕ) → ℕ → List ℕ = λ names start. short_text (names start) in
          let tree = ap shorten (ap₂ tree_of_row (c.encoding.ensures ∙ ap (λ (h : HeaderBytes). encoding h.bytes) c.header-header.ensures.value)
          (ap (λ (l : Listed). l.rows) c.roots-roots.ensures) ∙ known_trees file V c.args.desk.now.header c.args.desk.now.roots.rows desk.header desk.rows) in
          let names = c.new-labels.ensures ∙ ap (map (shown_tree c.encoding.result kept)) c.as_slice.ensures.value ∙ ap₂ map tree largest in
          let shown_blank = (λ i. filter (has_bit (c.blank.ensures i)) (range_with_len 1 (grid i).pages)) ∙ has.blank in
          let fixed = ap (λ (h : HeaderBytes). geometry_of h.bytes h.file_len) c.header-header.ensures.value ∙ desk.header.shape in
          let strong = ap (λ n. count_by (has_bit notes.framed) (range_with_len 1 n)) noted.pages
          ∙ same_count (has_bit notes.framed) (page_shows file V Framed) (geometry file).pages noted.framed.are in
          let weak = ap (λ n. count_by (is_weak (has_bit notes.faulty) (has_bit notes.framed)) (range_with_len 1 n)) noted.pages
          ∙ same_count (is_weak (has_bit notes.faulty) (has_bit notes.framed)) (is_weak (page_shows file V Faulty) (page_shows file V Framed))
          (geometry file).pages (λ p l m. ap₂ (λ a b. a && not b) (noted.faulty.are p l m) (noted.framed.are p l m)) in
          let pages = c.noted_pages-noted.ensures ∙ (λ i. record {
            blank = blank i;
            strong = strong i;
            weak = weak i;
            outside = (grid i).outside.last - (grid i).pages;
            are_after = (grid i).outside.are_after;
          }) in
          let lines = c.new-legend.ensures
          ∙ ap₂ (λ (t : PagesTallied) ks. legend_lines kept t ks c.noted_pages-noted.result) tally (c.as_slice-2.ensures.value ∙ largest)
          ∙ ap₂ (λ rows n. legend_lines rows (tally_of file V) (largest_of file V) n) rows pages in
          c.draw_picture.ensures.is file V (record { survey = desk.survey; marks = marks; trees = has.trees })
          ∙ (λ i. picture_text (record { file = c.shown_file.ensures i; geometry = shape i; faults = known.count i })
          (record {
            grid = grid i;
            shape = fixed i;
            place = λ p. (ap (λ m. marked_place m p) marks ∙ place_is file V desk.survey p) i;
            start = start_at V;
            blank = is_one_of (shown_blank i);
            largest = largest i;
            names = names i;
            tree = tree i;
            faults = λ index. noted.squares index i;
          })
          (lines i));
      puts = rw k (put_written c.end.result _ _ _ _ _ c.new-writer.ensures.fresh c.end.ensures
          (rw (ap g.O.Out.held c.new-writer.ensures.out) at drawn.written));
    }

-- The lines of the summary by the pieces that are put.
use Rattle.std.proofs.Common.{◌≡◌, ℕ, ◌<◌, ◌^◌, true, false, cond, List, [], ◌∷◌, ◌++◌, sym, ap, ap₂, ◌∙◌, arith, append_assoc}
use Rattle.std.specs.Prelude.{codes, decimal, ◌==◌}
use Rattle.dbexplain.proofs.Common.{freelist_start, counted, line_feed, SchemaRow, Encoding, tree_of_row, indented, start_name, start_sum, StartCount}
use Rattle.dbscan.specs.Roots.{root_page}
use Rattle.dbexplain.specs.Summary.{aligned, faulty_pages_text}
use Rattle.dbexplain.specs.Sums.{sum_front}

-- the name of a start
pub freelist_name : (e : Encoding) (rows : List SchemaRow) (k : ℕ) → (k == freelist_start) ≡ true → codes "the freelist" ≡ start_name e rows k
freelist_name e rows k h = sym (ap (λ b. cond b (codes "the freelist")
    (tree_of_row e rows k ++ codes " (root page " ++ decimal (root_page rows k) ++ codes ")")) h)

pub tree_name : (e : Encoding) (rows : List SchemaRow) (k : ℕ) → (k == freelist_start) ≡ false
    → tree_of_row e rows k ++ (codes " (root page " ++ decimal (root_page rows k) ++ codes ")") ≡ start_name e rows k
tree_name e rows k h =
    joined (tree_of_row e rows k) (codes " (root page ") (decimal (root_page rows k)) (codes ")")
    ∙ sym (ap (λ b. cond b (codes "the freelist") (tree_of_row e rows k ++ codes " (root page " ++ decimal (root_page rows k) ++ codes ")")) h)
  where
    joined : (a b c d : List ℕ) → a ++ (b ++ c ++ d) ≡ a ++ b ++ c ++ d
    joined a b c d = simp append_assoc

-- the line of a start
pub start_pieces : (all : ℕ) (name : List ℕ) (c : StartCount) → all < 2 ^ 64 → c.faults < 2 ^ 64 → (c.faults == 0) ≡ false
    → (sum_front all c.faults ++ codes "in ") ++ (name ++ (faulty_pages_text c.faulty c.reached ++ line_feed ∷ [])) ≡ start_sum all name c
start_pieces all name c a n some =
    let all_fits : all ≡ counted all = omega arith in
    let fits : c.faults ≡ counted c.faults = omega arith in
    joined (codes "    ") (aligned all c.faults) (codes " ") (codes "in ") name (faulty_pages_text c.faulty c.reached) (line_feed ∷ [])
    ∙ ap₂ (λ x y. indented (aligned x y ++ codes " " ++ (codes "in " ++ name ++ faulty_pages_text c.faulty c.reached))) all_fits fits
    ∙ sym (ap (λ b. cond b [] (indented (aligned (counted all) (counted c.faults) ++ codes " "
    ++ (codes "in " ++ name ++ faulty_pages_text c.faulty c.reached)))) some)
  where
    joined : (a b c d e f g : List ℕ) → ((a ++ b ++ c) ++ d) ++ (e ++ (f ++ g)) ≡ a ++ (b ++ c ++ (d ++ e ++ f)) ++ g
    joined a b c d e f g = simp append_assoc

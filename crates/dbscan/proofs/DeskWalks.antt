-- What a walk over the parts of a desk asked for, as what is asked over the desk.
use Rattle.dbscan.proofs.Common.{◌≡◌, ℕ, List, Result, subst, ◌∙◌, geometry, Geometry, Step, is_read_failed, failures_after, IsHeaderOf, Asks, SourceState}
use Rattle.dbscan.proofs.Common.{RunError, Reads, Mark, DeskView, shape_of, desk_view, asks_weaker, AreForHeader, Inside}

pub desk_asks : {A B C : Type 0} (step : Step) (d : Inside A) (old : DeskView) (marks : List Mark) (U : List ℕ → Type 0) (T : DeskView → List ℕ → Type 0)
    {r : Result B RunError} (s : Result C RunError) {before after : SourceState}
    → AreForHeader d → desk_view d ≡ old → ((n : ℕ) → failures_after is_read_failed r n ≡ failures_after is_read_failed s n)
    → Asks step (Reads d.bench.geometry.page_size d.marks marks) (λ file. d.bench.geometry ≡ geometry file → U file) is_read_failed r before after
    → ((file : List ℕ) → IsHeaderOf d.header file → U file → T (desk_view d) file)
    → Asks step (Reads (shape_of old).page_size old.marks marks) (λ file. IsHeaderOf old.header file → T old file) is_read_failed s before after
desk_asks step d old marks U T s {before} {after} whole is same h given =
    subst (λ (o : DeskView). Asks step (Reads (shape_of o).page_size o.marks marks) (λ file. IsHeaderOf o.header file → T o file) is_read_failed s before after)
    is
    (asks_weaker _ _ s same h (λ log reads. subst (λ (g : Geometry). Reads g.page_size d.marks marks log) whole.shape reads)
    (λ file walked is. given file is (walked (whole.shape ∙ is.shape))))

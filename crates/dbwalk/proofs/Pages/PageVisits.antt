-- What is reported of a page, by what a program finds of it.
use Rattle.std.proofs.Common.{◌≡◌, ℕ, ◌+◌, true, false, not, List, [], ◌∷◌, ◌++◌, length, map, Option, Some, None, sym, ap, ap₂, arith, ◌∙◌}
use Rattle.std.proofs.Common.{Bool, subst, ◌-◌, nat_lt, slice_get}
use Rattle.dbwalk.proofs.Common.{usable_size, page_bytes, start_of, View, undamaged, is_interior, reported_if, Reference, role_of, tree_kind, tree_view}
use Rattle.dbwalk.proofs.Common.{inner_faults, tree_page_faults, tree_page_row, TreeKind, page_cause, visit_cause, reported_row, reported_fault, reported_by}
use Rattle.dbwalk.proofs.Common.{Finding, Cause, RowidBounds, FaultCode, leaf_after, depth_faults, view_cause, with_leaf, page_findings, HasPageAt}
use Rattle.dbwalk.proofs.Common.{IsReportedTo, SinkState, IsCandidate, role_at, IsOpen, IsVisitAt, is_followed, rules_of, Walk, IsInterior, option_map_or}
use Rattle.dbwalk.proofs.Common.{nat_tests, Fault, TreeLeaf, common_steps}
use Rattle.dbformat.specs.Address.{depth}
use Rattle.dbformat.specs.PageFaults.{is_leaf_of}
use Rattle.dbwalk.specs.LeafCells.{first_of, depth_reported}
use Rattle.dbwalk.specs.Found.{undamaged_findings, damaged_findings, IsDamagedAt, IsOpenLeaf}
use Rattle.dbtrace.proofs.Causing.{inner_codes, inner_same}
use Rattle.dbwalk.proofs.Pages.PageReportings.{is_child, page_reported, view_is, row_of_view, row_of_damage, reported_then}

-- a page that is no leaf has no fault of its depth, and leaves the depth of the first leaf
no_leaf : (file : List ℕ) (rowids : RowidBounds) (leaf : Option TreeLeaf) (c : Reference) → is_leaf_of file (start_of c.address) c ≡ false
    → (depth_faults file leaf c ≡ []) × (leaf_after file leaf rowids c ≡ leaf)
no_leaf file rowids leaf c e = (grind arith, grind arith)

-- a fault that is reported, where a test holds
pub reported_once : (why : FaultCode → Cause) (b : Bool) (f : Fault) → reported_by why (reported_if b f) ≡ reported_if b (reported_fault f (why f.code))
reported_once why b f = grind arith

-- a leaf has one if its depth is not that of the first leaf; if there is none yet, it is the first itself
at_leaf : (file : List ℕ) (why : FaultCode → Cause) (rowids : RowidBounds) (leaf : Option TreeLeaf) (c : Reference) (n : ℕ)
    → is_leaf_of file (start_of c.address) c ≡ true
    → depth c.address ≡ n
    → (reported_by (with_leaf why rowids leaf) (depth_faults file leaf c) ≡ depth_reported rowids leaf c.page n)
    × (leaf_after file leaf rowids c ≡ Some (first_of rowids leaf c.page n))
at_leaf file why rowids leaf c n e d = (grind arith, grind arith)

module _ (file : List ℕ) (kind : TreeKind) (k : ℕ) (path : List ℕ) (p from item : ℕ) (c : Reference) (candidate : IsCandidate kind k path p from item c) where
  role_is : role_of c ≡ role_at kind path
  role_is = ap (λ w. w.role) candidate.way

  pub kind_is : tree_kind (role_of c) ≡ Some kind
  kind_is = let is = role_is in grind arith

  -- a page is a child where the way to it is not empty
  pub child_is : is_child (role_of c) ≡ nat_lt 1 (length path + 1)
  child_is = let is = role_is in grind (arith, nat_tests)

  abbrev bytes : List ℕ
  bytes = page_bytes file p

  pub viewed_as : (o : Option View) → undamaged kind p (usable_size file) bytes ≡ o → tree_view file c ≡ o
  viewed_as o e = view_is file c kind kind_is ∙ ap (λ q. undamaged kind q (usable_size file) (page_bytes file q)) candidate.page ∙ e

  faults_as : (fs : List Fault) → tree_page_faults kind (nat_lt 1 (length path + 1)) p (usable_size file) bytes ≡ fs
      → tree_page_faults kind (is_child (role_of c)) c.page (usable_size file) (page_bytes file c.page) ≡ fs
  faults_as fs e = rw (child_is, candidate.page) e

  -- whether it is a leaf of its tree
  leaf_is : (o : Option View) → undamaged kind p (usable_size file) bytes ≡ o → is_leaf_of file (start_of c.address) c
      ≡ option_map_or (λ v. not (is_interior v.kind)) o false
  leaf_is o e = let viewed = viewed_as o e in grind (arith, nat_tests)

  module _ (rowids : RowidBounds) (leaf : Option TreeLeaf) where
    -- a damaged page: its row, and its one fault
    pub reported_damaged : (f : Fault) → undamaged kind p (usable_size file) bytes ≡ None
        → tree_page_faults kind (nat_lt 1 (length path + 1)) p (usable_size file) bytes ≡ f ∷ []
        → page_findings file rowids leaf c ≡ damaged_findings k path rowids p (usable_size file) bytes f
    reported_damaged f e g =
        let why = page_cause rowids c.page (usable_size file) (page_bytes file c.page) None in
        let page = page_reported file c kind kind_is rowids leaf None (viewed_as None e) in
        let faults = faults_as (f ∷ []) g in
        let last = (no_leaf file rowids leaf c (leaf_is None e)).0 in
        let row = row_of_damage c p k path candidate.start candidate.path candidate.chain candidate.page in
        let at = candidate.page in
        grind (arith, common_steps)

    -- it is no leaf
    pub leaf_after_damaged : undamaged kind p (usable_size file) bytes ≡ None → leaf_after file leaf rowids c ≡ leaf
    leaf_after_damaged e = (no_leaf file rowids leaf c (leaf_is None e)).1

    module _ (v : View) (viewed : undamaged kind p (usable_size file) bytes ≡ Some v) (number : v.number ≡ p)
        (within : tree_page_faults kind (nat_lt 1 (length path + 1)) p (usable_size file) bytes ≡ inner_faults v (nat_lt 1 (length path + 1))) where
      pub row_and_faults : page_findings file rowids leaf c ≡ undamaged_findings k path rowids v (nat_lt 1 (length path + 1))
          ++ reported_by (with_leaf (visit_cause rowids file c) rowids leaf) (depth_faults file leaf c)
      row_and_faults =
          let why = page_cause rowids c.page (usable_size file) (page_bytes file c.page) (Some v) in
          let last = reported_by (with_leaf (visit_cause rowids file c) rowids leaf) (depth_faults file leaf c) in
          let child = nat_lt 1 (length path + 1) in
          page_reported file c kind kind_is rowids leaf (Some v) (viewed_as (Some v) viewed)
          ∙ ap (λ fs. (reported_row (tree_page_row c (Some v)) ∷ reported_by why fs) ++ last) (faults_as (inner_faults v child) within)
          ∙ ap (λ L. (reported_row (tree_page_row c (Some v)) ∷ L) ++ last) (inner_same why (view_cause rowids v)
          (ap of_page (candidate.page ∙ sym number)) v child)
          ∙ ap (λ r. (reported_row r ∷ reported_by (view_cause rowids v) (inner_faults v child)) ++ last)
          (sym (row_of_view c v k path candidate.start candidate.path candidate.chain (number ∙ sym candidate.page)))
        where
          of_page : ℕ → List Cause
          of_page q = map (page_cause rowids q (usable_size file) (page_bytes file c.page) (Some v)) inner_codes

      -- an interior page: its row, and the faults within it
      pub reported_interior : is_interior v.kind ≡ true → page_findings file rowids leaf c ≡ undamaged_findings k path rowids v (nat_lt 1 (length path + 1))
      reported_interior e =
          let whole = row_and_faults in let last = (no_leaf file rowids leaf c (leaf_is (Some v) viewed ∙ ap not e)).0 in grind (arith, common_steps)

      pub leaf_after_interior : is_interior v.kind ≡ true → leaf_after file leaf rowids c ≡ leaf
      leaf_after_interior e = (no_leaf file rowids leaf c (leaf_is (Some v) viewed ∙ ap not e)).1

      -- a leaf: then that its depth is not that of the first
      pub reported_leaf : is_interior v.kind ≡ false → page_findings file rowids leaf c ≡ undamaged_findings k path rowids v (nat_lt 1 (length path + 1))
          ++ depth_reported rowids leaf p (length path + 1)
      reported_leaf e = row_and_faults
          ∙ ap (λ L. undamaged_findings k path rowids v (nat_lt 1 (length path + 1)) ++ L)
          ((at_leaf file (visit_cause rowids file c) rowids leaf c (length path + 1) (leaf_is (Some v) viewed ∙ ap not e) candidate.depth).0
          ∙ ap (λ q. depth_reported rowids leaf q (length path + 1)) candidate.page)

      pub leaf_after_leaf : is_interior v.kind ≡ false → leaf_after file leaf rowids c ≡ Some (first_of rowids leaf p (length path + 1))
      leaf_after_leaf e = (at_leaf file (visit_cause rowids file c) rowids leaf c (length path + 1) (leaf_is (Some v) viewed ∙ ap not e) candidate.depth).1
          ∙ ap (λ q. Some (first_of rowids leaf q (length path + 1))) candidate.page

-- How the report of a page ends.

module _ {S : Type 0} (takes : S → Finding → S → Type 0) (held : S → SinkState) (file : List ℕ) (kind : TreeKind) (k : ℕ) (path : List ℕ)
    (p from item : ℕ) (c : Reference) (candidate : IsCandidate kind k path p from item c)
    (usable : ℕ) (usable_is : usable ≡ usable_size file) (bytes : List ℕ) (bytes_are : bytes ≡ page_bytes file p)
    (rowids : RowidBounds) (leaf : Option TreeLeaf) (path' : List ℕ) (path_is : path' ≡ path) (rowids' : RowidBounds) (rowids_are : rowids' ≡ rowids)
    (depth : ℕ) (depth_is : depth ≡ length path + 1) (s : S) where
  abbrev Exit : S → Option TreeLeaf → Type 0
  Exit t new = IsReportedTo takes held s (page_findings file rowids leaf c) t × (new ≡ leaf_after file leaf rowids c)

  module _ (f : Fault) (none : undamaged kind p usable bytes ≡ None) (one : (b : Bool) → tree_page_faults kind b p usable bytes ≡ f ∷ []) (t : S)
      (reported : IsReportedTo takes held s (damaged_findings k path' rowids' p usable bytes f) t) where
    pub exit_damaged : Exit t leaf
    exit_damaged =
        let e = rw (usable_is, bytes_are) at none in
        let faults = rw (usable_is, bytes_are) at (one (nat_lt 1 (length path + 1))) in (
          subst (λ L. IsReportedTo takes held s L t) (sym (reported_damaged file kind k path p from item c candidate rowids leaf f e faults))
              (rw (path_is, rowids_are, usable_is, bytes_are) at reported),
          sym (leaf_after_damaged file kind k path p from item c candidate rowids leaf e),
        )

  module _ (v : View) (viewed : undamaged kind p usable bytes ≡ Some v) (number : v.number ≡ p)
      (within : (b : Bool) → tree_page_faults kind b p usable bytes ≡ inner_faults v b) (t : S)
      (reported : IsReportedTo takes held s (undamaged_findings k path' rowids' v (nat_lt 1 depth)) t) where
    abbrev first_reported : List Finding
    first_reported = undamaged_findings k path rowids v (nat_lt 1 (length path + 1))

    reported_first : IsReportedTo takes held s first_reported t
    reported_first = rw (path_is, rowids_are, depth_is) at reported

    there : undamaged kind p (usable_size file) (page_bytes file p) ≡ Some v
    there = rw (usable_is, bytes_are) at viewed

    inner : tree_page_faults kind (nat_lt 1 (length path + 1)) p (usable_size file) (page_bytes file p) ≡ inner_faults v (nat_lt 1 (length path + 1))
    inner = rw (usable_is, bytes_are) at (within (nat_lt 1 (length path + 1)))

    pub exit_interior : is_interior v.kind ≡ true → Exit t leaf
    exit_interior i = (
      subst (λ L. IsReportedTo takes held s L t)
          (sym (reported_interior file kind k path p from item c candidate rowids leaf v there number inner i)) reported_first,
      sym (leaf_after_interior file kind k path p from item c candidate rowids leaf v there number inner i),
    )

    module _ (is_leaf : is_interior v.kind ≡ false) (t1 : S) (last : IsReportedTo takes held t (depth_reported rowids' leaf p depth) t1) where
      abbrev last_reported : List Finding
      last_reported = depth_reported rowids leaf p (length path + 1)

      reported_last : IsReportedTo takes held t last_reported t1
      reported_last = rw (rowids_are, depth_is) at last

      pub exit_leaf : (new : Option TreeLeaf) → new ≡ Some (first_of rowids' leaf p depth) → Exit t1 new
      exit_leaf new n = (
        subst (λ L. IsReportedTo takes held s L t1)
            (sym (reported_leaf file kind k path p from item c candidate rowids leaf v there number inner is_leaf))
            (reported_then first_reported last_reported reported_first reported_last),
        n ∙ ap₂ (λ w n. Some (first_of w leaf p n)) rowids_are depth_is
            ∙ sym (leaf_after_leaf file kind k path p from item c candidate rowids leaf v there number inner is_leaf),
      )

-- A page of a tree that was read, by what it is.

module _ (file : List ℕ) {kind : TreeKind} {k : ℕ} {children : List ℕ} {p from item : ℕ} {c : Reference} (candidate : IsCandidate kind k children p from item c)
    {levels levels' : List (List ℕ)} (there : HasPageAt levels (length children) (page_bytes file p)) (same : levels' ≡ levels) {kind' : TreeKind}
    (kinds : kind' ≡ kind) {usable : ℕ} (usables : usable ≡ usable_size file) where
  pub bytes_are : (bytes : List ℕ) → slice_get levels' (length children) ≡ Some bytes → bytes ≡ page_bytes file p
  bytes_are bytes e = there bytes (ap (λ ls. slice_get ls (length children)) (sym same) ∙ e)

  view_of : (bytes : List ℕ) (o : Option View) → slice_get levels' (length children) ≡ Some bytes → undamaged kind' p usable bytes ≡ o → tree_view file c ≡ o
  view_of bytes o e f = viewed_as file kind k children p from item c candidate o (
      ap (λ q. undamaged q p (usable_size file) (page_bytes file p)) (sym kinds) ∙ ap (λ u. undamaged kind' p u (page_bytes file p)) (sym usables)
      ∙ ap (λ b. undamaged kind' p usable b) (sym (bytes_are bytes e)) ∙ f)

  pub found_interior : (walk : Walk) → is_followed (rules_of file) walk.visits c ≡ true
      → IsOpen usable kind' levels' (length children) p 0 → IsInterior file walk c levels'
  found_interior walk followed is = record {
    followed = followed;
    view = is.view;
    viewed = view_of is.bytes (Some is.view) is.there is.viewed;
    interior = is.interior;
    bytes = ap (slice_get levels') (let d = candidate.depth in let e : length c.address - 1 ≡ length children = omega arith in e)
        ∙ is.there ∙ ap (λ b. Some b) (bytes_are is.bytes is.there) ∙ ap (λ q. Some (page_bytes file q)) (sym candidate.page);
  }

  pub found_damage : IsDamagedAt usable kind' levels' (length children) p → tree_view file c ≡ None
  found_damage damaged = view_of damaged.bytes None damaged.there damaged.viewed

  pub found_view : (found : IsOpenLeaf usable kind' levels' (length children) p) → tree_view file c ≡ Some found.view
  found_view found = view_of found.bytes (Some found.view) found.there found.viewed

  -- a leaf, for the state at its cells
  module _ {kind'' : TreeKind} (now_is : kind'' ≡ kind) {k' : ℕ} (starts : k' ≡ k) {children' : List ℕ} (ways : children' ≡ children)
      (found : IsOpenLeaf usable kind' levels' (length children) p) where
    pub found_leaf : IsVisitAt kind'' k' children' c p
    found_leaf = record {
      page = candidate.page;
      kind_is = kind_is file kind k children p from item c candidate ∙ ap (λ q. Some q) (sym now_is);
      start = candidate.start ∙ sym starts;
      depth = candidate.depth ∙ ap (λ l. length l + 1) (sym ways);
      path = candidate.path ∙ sym ways;
      chain = candidate.chain;
    }

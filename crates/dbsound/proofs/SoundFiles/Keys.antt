-- No key of a sound file is out of order.
use Rattle.std.proofs.Common.{◌≡◌, ℕ, ◌&&◌, Some, List, [], sym, ap, subst, ◌∙◌}
use Rattle.std.specs.Prelude.{flat_map, ◌==◌}
use Rattle.std.specs.List.{list_any}
use Rattle.std.proofs.lemmas.Bool.{and_parts, eqb-true}
use Rattle.dbsound.proofs.Common.{IsIn, is_before, fault, start_of, key_step, View, Cell, cells, Reference, tree_view, Key, key_of, keys_of_view, keys_at, keys}
use Rattle.dbsound.proofs.Common.{is_out_of_order, key_faults, Sound}
use Rattle.dbsurvey.proofs.Ordering.{IsIn-flat_map, IsIn-from_flat_map, is_before-means}
use Rattle.dbformat.specs.Address.{then_step}
use Rattle.dbformat.specs.KeyFaults.{earlier_keys}
use Rattle.dbformat.specs.declared.FaultCode.TheVariants.{T06}
use Rattle.dbsurvey.proofs.Lists.{flat_map-none, filter-from, any_none}
use Rattle.dbsound.proofs.TermKeys.CellKeys.{view_place}
use Rattle.dbsound.proofs.SoundFiles.Survey.{all_visits}
use Rattle.dbsound.proofs.SoundFiles.Pages.{all_started, all_good}
use Rattle.dbformat.proofs.TestsLemmas.{reported_none}

module _ (file : List ℕ) (s : Sound file) where
  abbrev V : List Reference
  V = all_visits file s

  key_start : (r : Reference) → IsIn r V → (k : Key) → IsIn k (keys_at file r) → start_of k.place ≡ start_of r.address
  key_start r i k j =
      let p = view_place r (tree_view file r) k j in
      let a = all_started file s r i in
      ap start_of (p.1 ∙ ap (λ b. then_step b (key_step p.0)) a.4) ∙ sym (ap start_of a.4)

  key_none : (r : Reference) → IsIn r V → (k : Key) → IsIn k (keys_at file r) → key_faults file V k ≡ []
  unfolding key_faults keys
  key_none r i k j = reported_none (list_any (is_out_of_order k) (earlier_keys file V k)) (fault T06 k.page k.item k.value)
      (any_none (is_out_of_order k) (earlier_keys file V k) (λ x m.
      let f = filter-from (λ x. (start_of x.place == start_of k.place) && is_before x.place k.place) (flat_map (keys_at file) V) x m in
      let p = and_parts (start_of x.place == start_of k.place) (is_before x.place k.place) f.1 in
      let w = IsIn-from_flat_map (keys_at file) V x f.0 in
      (all_good file s w.0 r w.1 i (sym (key_start w.0 w.1 x w.2) ∙ eqb-true (start_of x.place) (start_of k.place) p.0 ∙ key_start r i k j)).sorted x k w.2 j
      (is_before-means x.place k.place p.1)))

  pub keys_none : (r : Reference) (v : View) (x : ℕ × Cell) → IsIn r V → tree_view file r ≡ Some v → IsIn x (cells v)
      → flat_map (key_faults file V) (key_of r v x) ≡ []
  keys_none r v x i e j = flat_map-none (key_faults file V) (key_of r v x)
      (λ k m. key_none r i k (subst (λ o. IsIn k (keys_of_view r o)) (sym e) (IsIn-flat_map (key_of r v) (cells v) x k j m)))

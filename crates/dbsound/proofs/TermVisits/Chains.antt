-- The visits of a chain, and of the payloads of a page, are all that their references lead to.
use Rattle.std.proofs.Common.{◌≡◌, ℕ, ◌+◌, ◌-◌, ◌≤◌, ◌<◌, inl, inr, true, false, List, [], ◌∷◌, ◌++◌, None, refl, sym, subst, ap, ◌∙◌, arith}
use Rattle.std.specs.Prelude.{flat_map, option_map, option_to_list, nat_lt}
use Rattle.std.specs.List.{enumerate_from}
use Rattle.std.proofs.lemmas.List.{append-nil}
use Rattle.std.proofs.lemmas.Bool.Decides.{nat_tests}
use Rattle.dbsound.proofs.Common.{Address, Link, children, named_at, IsWhole, nothing, overflow_step, child_step, usable_size, page_bytes, overflow_next, Cell}
use Rattle.dbsound.proofs.Common.{overflow_size, Role, child, first_overflow, later_overflow, Way, Reference, link, cell_links, overflow_links, role_links}
use Rattle.dbsound.proofs.Common.{rules_of, Use, Chain, last, full, Payload, whole, split, Payloads, none, more, TreeKind}
use Rattle.dbformat.proofs.Chains.{IsOverflow, links_at}
use Rattle.dbsurvey.proofs.Each.{Each, Each-left, Each-right}
use Rattle.dbsound.proofs.TermVisits.{visit_at, chain_visits, payload_visits, payloads_visits}
use Rattle.dbsurvey.proofs.WholeParts.{whole_one, whole_both}
use Rattle.dbsurvey.proofs.Composing.{named_at-append}

-- a reference may be followed
abbrev pub May : List ℕ → Reference → Type 0
May file t = (rules_of file).may t ≡ true

links_of : (file : List ℕ) (role : Role) (from item p : ℕ) (a : Address)
    → children (rules_of file) (visit_at role from item p a) ≡ named_at a (role_links role p (usable_size file) (page_bytes file p))
unfolding rules_of
links_of file role from item p a = refl

module _ (file : List ℕ) where
  -- V is all that the references lead to, where each may be followed
  abbrev pub Whole : List Reference → List Reference → Type 0
  Whole cs V = IsWhole (rules_of file) cs V

  -- the visit of a page whose links are these, and what they lead to
  pub visit_whole : (role : Role) (from item p : ℕ) (a : Address) (ls : List (Link Way)) (V : List Reference)
      → role_links role p (usable_size file) (page_bytes file p) ≡ ls
      → Each (May file) (visit_at role from item p a ∷ V) → Whole (named_at a ls) V → Whole (visit_at role from item p a ∷ []) (visit_at role from item p a ∷ V)
  visit_whole role from item p a ls V e m w = whole_one (rules_of file) (visit_at role from item p a) V (m (visit_at role from item p a) (inl refl))
      (subst (λ cs. Whole cs V) (sym (links_of file role from item p a ∙ ap (λ ls. named_at a ls) e)) w)

  chain_links : (role : Role) (p left : ℕ) → IsOverflow role left
      → role_links role p (usable_size file) (page_bytes file p) ≡ overflow_links p (usable_size file) left (page_bytes file p)
  chain_links role p left o = links_at file role (visit_at role 0 0 p []) left o

  no_links : (p usable left : ℕ) (page : List ℕ) → left ≤ usable - 4 → overflow_links p usable left page ≡ []
  no_links p usable left page h = let e : nat_lt (usable - 4) left ≡ false = grind (arith, nat_tests) in rw e refl

  one_link : (p usable left : ℕ) (page : List ℕ) → usable - 4 < left
      → overflow_links p usable left page ≡ link p 0 0 (later_overflow (left - (usable - 4))) (overflow_next page) ∷ []
  one_link p usable left page h = let e : nat_lt (usable - 4) left ≡ true = grind (arith, nat_tests) in rw e refl

chain_whole : {file : List ℕ} {role : Role} {from p left : ℕ} {uses : List Use} {bytes : List ℕ} (t : Chain file role from p left uses bytes)
    (item : ℕ) (a : Address) → IsOverflow role left → Each (May file) (chain_visits t item a)
    → Whole file (visit_at role from item p a ∷ []) (chain_visits t item a)
chain_whole {file} (last {role} {from} {p} {left} h e) item a o m =
    visit_whole file role from item p a [] [] (chain_links file role p left o ∙ no_links file p (usable_size file) left (page_bytes file p) h) m nothing
chain_whole {file} (full {role} {from} {p} {left} h t) item a o m =
    visit_whole file role from item p a (link p 0 0 (later_overflow (left - (usable_size file - 4))) (overflow_next (page_bytes file p)) ∷ [])
    (chain_visits t 0 (a ++ 0 ∷ []))
    (chain_links file role p left o ∙ one_link file p (usable_size file) left (page_bytes file p) h) m
    (chain_whole t 0 (a ++ 0 ∷ []) refl (λ u i. m u (inr i)))

-- the link of a cell to its chain
abbrev pub chain_link : ℕ → ℕ → Cell → List (Link Way)
chain_link p i c = option_to_list (option_map (link p (overflow_step i) i (first_overflow (overflow_size c))) c.overflow)

pub payload_whole : {file : List ℕ} {p : ℕ} {c : Cell} {uses : List Use} {bytes : List ℕ} (t : Payload file p c uses bytes)
    (i : ℕ) (a : Address) → Each (May file) (payload_visits t i a) → Whole file (named_at a (chain_link p i c)) (payload_visits t i a)
payload_whole {file} {p} {c} (whole e) i a m = subst
    (λ o. Whole file (named_at a (option_to_list (option_map (link p (overflow_step i) i (first_overflow (overflow_size c))) o))) []) (sym e) nothing
payload_whole {file} {p} {c} (split e t) i a m = subst
    (λ o. Whole file (named_at a (option_to_list (option_map (link p (overflow_step i) i (first_overflow (overflow_size c))) o)))
    (chain_visits t i (a ++ overflow_step i ∷ []))) (sym e)
    (chain_whole t i (a ++ overflow_step i ∷ []) refl m)

pub payloads_whole : {file : List ℕ} {p : ℕ} {cs : List Cell} {uses : List Use} {payloads : List (List ℕ)} (t : Payloads file p cs uses payloads)
    (kind : TreeKind) (i : ℕ) (a : Address) → Each (λ c. c.left ≡ None) cs → Each (May file) (payloads_visits t i a)
    → Whole file (named_at a (flat_map (cell_links p kind) (enumerate_from i cs))) (payloads_visits t i a)
payloads_whole none kind i a l m = nothing
payloads_whole {file} {p} (more {c} {cs} t ts) kind i a l m =
    subst (λ X. Whole file X (payload_visits t i a ++ payloads_visits ts (i + 1) a))
    (sym (named_at-append a (cell_links p kind (i, c)) (flat_map (cell_links p kind) (enumerate_from (i + 1) cs))))
    (whole_both (rules_of file) (named_at a (cell_links p kind (i, c))) (named_at a (flat_map (cell_links p kind) (enumerate_from (i + 1) cs)))
    (payload_visits t i a) (payloads_visits ts (i + 1) a)
    (subst (λ o. Whole file (named_at a (chain_link p i c ++ option_to_list (option_map (link p (child_step i) i (child kind)) o))) (payload_visits t i a))
    (sym (l c (inl refl)))
    (subst (λ X. Whole file (named_at a X) (payload_visits t i a)) (sym (append-nil (chain_link p i c)))
    (payload_whole t i a (Each-left (May file) (payload_visits t i a) (payloads_visits ts (i + 1) a) m))))
    (payloads_whole ts kind (i + 1) a (λ d j. l d (inr j)) (Each-right (May file) (payload_visits t i a) (payloads_visits ts (i + 1) a) m)))

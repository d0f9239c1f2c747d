-- Literals that clauses force, and decisions, make a trail longer.
use Rattle.std.proofs.Common.{◌≡◌, ℕ, ◌+◌, ◌<◌, Bool, true, List, [], ◌∷◌, ◌++◌, length, get_or, Option, Some, None, slice_get, refl, ap, sym, ◌∙◌, subst, arith, length-append}
use Rattle.std.specs.List.{list_all}
use Rattle.std.proofs.lemmas.Bool.{ne_eqb}
use Rattle.std.proofs.lemmas.Option.{slice_get-get_or}
use Rattle.std.proofs.lemmas.List.{get_or_default}
use Rattle.std.proofs.Math.ListN.{length-set}
use Rattle.cnf_form.specs.Literals.{Literal}
use Rattle.cnf_form.specs.Propagation.{unassigned, is_falsified, unit_literal, numbered, unit_of_hint, hint_is_falsified}
use Rattle.cnf_form.specs.Variables.{is_below, occurs}
use Rattle.cdcl_core.specs.declared.trail.Entry.{Entry}
use Rattle.cdcl_core.specs.declared.propagation.State.TheVariants.{Forces}
use Rattle.cdcl_core.specs.Trails.{Assignment, with_entry, trail_values, IsTrail, AreCalm, free_count}
use Rattle.cdcl_core.specs.Passes.{IsState, IsFollowed}
use Rattle.cdcl_core.proofs.Values.{trail_more}
use Rattle.cdcl_core.proofs.Scanning.{all_at}

-- the clause at place i has the number i + 1
pub numbered_at : (clauses : List (List Literal)) (i : ℕ) → i < length clauses → numbered clauses (i + 1) ≡ Some (get_or clauses i [])
numbered_at clauses i within =
    rw (ne_eqb (i + 1) 0 (λ e. absurd (omega (arith, e)))) (ap (slice_get clauses) (omega arith) ∙ slice_get-get_or clauses i [] within)

pub below_at : (n : ℕ) (clauses : List (List Literal)) (i : ℕ) (c : List Literal) → i < length clauses → c ≡ get_or clauses i c → list_all (is_below n) clauses ≡ true → is_below n c ≡ true
below_at n clauses i c within at below = ap (is_below n) at ∙ all_at (is_below n) clauses i c within below

read : (clauses : List (List Literal)) (i : ℕ) (c : List Literal) → i < length clauses → c ≡ get_or clauses i c → c ≡ get_or clauses i []
read clauses i c within at = at ∙ get_or_default clauses i c [] within

pub false_clause : (clauses : List (List Literal)) (a : ℕ → Option Bool) (i : ℕ) (c : List Literal) → i < length clauses → c ≡ get_or clauses i c → is_falsified a c ≡ true → hint_is_falsified a (numbered clauses (i + 1)) ≡ true
false_clause clauses a i c within at h =
    ap (hint_is_falsified a) (numbered_at clauses i within ∙ ap (λ (d : List Literal). Some d) (sym (read clauses i c within at))) ∙ h

unit_at : (clauses : List (List Literal)) (a : ℕ → Option Bool) (i : ℕ) (c : List Literal) (l : Literal) → i < length clauses → c ≡ get_or clauses i c → unit_literal a c ≡ Some l → unit_of_hint a (numbered clauses (i + 1)) ≡ Some l
unit_at clauses a i c l within at h =
    ap (unit_of_hint a) (numbered_at clauses i within ∙ ap (λ (d : List Literal). Some d) (sym (read clauses i c within at))) ∙ h

trail_forced : (clauses : List (List Literal)) (es : List Entry) (e : Entry) (l : Literal) (k : ℕ) → IsTrail clauses es → e ≡ record { literal = l; reason = Some k } → trail_values es l.variable ≡ None → unit_of_hint (trail_values es) (numbered clauses k) ≡ Some l → IsTrail clauses (es ++ e ∷ [])
unfolding trail_values
trail_forced clauses es e l k h is free forced =
    subst (λ (d : Entry). IsTrail clauses (es ++ d ∷ [])) (sym is) (trail_more clauses es unassigned (record { literal = l; reason = Some k }) h free forced)

pub trail_decided : (clauses : List (List Literal)) (es : List Entry) (l : Literal) → IsTrail clauses es → trail_values es l.variable ≡ None → AreCalm (trail_values es) clauses → occurs clauses l.variable ≡ true → IsTrail clauses (es ++ record { literal = l; reason = None } ∷ [])
unfolding trail_values
trail_decided clauses es l h free calm occurring =
    trail_more clauses es unassigned (record { literal = l; reason = None }) h free (calm, occurring)

-- a literal that one clause forces
pub followed_forced : (clauses : List (List Literal)) (old after : Assignment) (i : ℕ) (c : List Literal) (l : Literal) → IsTrail clauses old.entries → i < length clauses → c ≡ get_or clauses i c → IsState (trail_values old.entries) (length old.marks) c (Forces l)
    → after ≡ with_entry old (record { literal = l; reason = Some (i + 1) }) → free_count after.marks < free_count old.marks → IsFollowed clauses old after
followed_forced clauses old after i c l h within at forced made less =
    let long : length after.entries ≡ length old.entries + 1 = ap (λ (t : Assignment). length t.entries) made ∙ length-append old.entries (record { literal = l; reason = Some (i + 1) } ∷ []) in
    record {
      trail = subst (λ (t : Assignment). IsTrail clauses t.entries) (sym made)
          (trail_forced clauses old.entries (record { literal = l; reason = Some (i + 1) }) l (i + 1) h refl forced.1.1 (unit_at clauses (trail_values old.entries) i c l within at forced.0));
      size = ap (λ (t : Assignment). length t.marks) made ∙ length-set old.marks l.variable (Some l.positive);
      longer = omega (arith, long);
      no_more = omega (arith, less, long);
    }

pub followed_same : (clauses : List (List Literal)) (old : Assignment) → IsTrail clauses old.entries → IsFollowed clauses old old
followed_same clauses old h = record { trail = h; size = refl; longer = omega arith; no_more = omega arith }

pub followed_on : (clauses : List (List Literal)) (old now after : Assignment) → IsFollowed clauses old now → IsFollowed clauses now after → IsFollowed clauses old after
followed_on clauses old now after f g = record { trail = g.trail; size = g.size ∙ f.size; longer = omega (arith, f.longer, g.longer); no_more = omega (arith, f.no_more, g.no_more) }

use Rattle.std.proofs.Common.{◌≡◌, ℕ, zero, suc, ◌-◌, ◌==◌, Bool, true, false, not, cond, if◌then◌else◌, List, [], ◌∷◌, ◌++◌, take, drop, Option, Some, None, filter, refl, ap, sym, ◌∙◌, subst, slice_get, inl, inr}
use Rattle.std.specs.List.{list_all}
use Rattle.std.proofs.lemmas.Bool.{eq-eqb, ne_eqb, and_parts, and_from, false≢true}
use Rattle.std.proofs.lemmas.List.{take-append-drop}
use Rattle.cnf_form.specs.Literals.{Literal}
use Rattle.cnf_form.specs.Propagation.{assign, has_value, is_true, is_false, is_falsified, open_literals, only_literal, unit_literal, numbered, unit_of_hint, hint_is_falsified}
use Rattle.cnf_form.proofs.Occurs.{occurs_more}
use Rattle.cdcl_core.specs.declared.trail.Entry.{Entry}
use Rattle.proof_check.proofs.Chains.{at_more}
use Rattle.cdcl_core.specs.Trails.{assigned, IsCalm, AreCalm, IsMadeTrue, IsTrailFrom, IsDecisionAt}
use Rattle.cdcl_core.proofs.Lists.{got_more}

-- the values that a keeps in b
abbrev pub Extends : (ℕ → Option Bool) → (ℕ → Option Bool) → Type 0
Extends a b = (x : ℕ) (t : Bool) → a x ≡ Some t → b x ≡ Some t

pub assign-same : (a : ℕ → Option Bool) (l : Literal) (x : ℕ) → x ≡ l.variable → assign a l x ≡ Some l.positive
assign-same a l x same = rw (eq-eqb x l.variable same) refl

pub assign-other : (a : ℕ → Option Bool) (l : Literal) (x : ℕ) → (x ≡ l.variable → ⊥) → assign a l x ≡ a x
assign-other a l x other = rw (ne_eqb x l.variable other) refl

-- a variable with a value isn't one without
pub differ : (a : ℕ → Option Bool) (x y : ℕ) (t : Bool) → a x ≡ Some t → a y ≡ None → x ≡ y → ⊥
differ a x y t has hasnt same = let e : a x ≡ a y = ap a same in cc

pub assign-extends : (a : ℕ → Option Bool) (l : Literal) → a l.variable ≡ None → Extends a (assign a l)
assign-extends a l free x t has = assign-other a l x (differ a x l.variable t has free) ∙ has

-- what is false stays false
value_kept : (o q : Option Bool) (p : Bool) → ((t : Bool) → o ≡ Some t → q ≡ Some t) → has_value o p ≡ true → has_value q p ≡ true
value_kept None q p kept h = absurd (false≢true h)
value_kept (Some t) q p kept h = rw (kept t refl) h

pub false_kept : (a b : ℕ → Option Bool) (l : Literal) → Extends a b → is_false a l ≡ true → is_false b l ≡ true
false_kept a b l kept h = value_kept (a l.variable) (b l.variable) (not l.positive) (kept l.variable) h

pub all_false_kept : (a b : ℕ → Option Bool) (c : List Literal) → Extends a b → list_all (is_false a) c ≡ true → list_all (is_false b) c ≡ true
all_false_kept a b [] kept h = refl
all_false_kept a b (l ∷ ls) kept h =
    let parts : (is_false a l ≡ true) × (list_all (is_false a) ls ≡ true) = and_parts _ _ h in
    and_from _ _ (false_kept a b l kept parts.0) (all_false_kept a b ls kept parts.1)

pub falsified_kept : (a b : ℕ → Option Bool) (c : List Literal) → Extends a b → is_falsified a c ≡ true → is_falsified b c ≡ true
unfolding is_falsified
falsified_kept a b c kept h = all_false_kept a b c kept h

-- the only literal that isn't false is the only one still, if it has no value yet
opened_by : (a b : ℕ → Option Bool) (l : Literal) (rest kept : List Literal) (t u : Bool) → is_false a l ≡ t → is_false b l ≡ u → (is_false a l ≡ true → is_false b l ≡ true)
    → kept ≡ filter (λ k. not (is_false b k)) rest → filter (λ k. not (is_false b k)) (cond (not t) (l ∷ rest) rest) ≡ cond (not u) (l ∷ kept) kept
opened_by a b l rest kept true true at now keeps is = sym is
opened_by a b l rest kept true false at now keeps is = absurd (false≢true (sym now ∙ keeps at))
opened_by a b l rest kept false true at now keeps is = rw now (sym is)
opened_by a b l rest kept false false at now keeps is = rw now (ap (λ ls. l ∷ ls) (sym is))

opened_again : (a b : ℕ → Option Bool) (c : List Literal) → Extends a b → filter (λ k. not (is_false b k)) (filter (λ k. not (is_false a k)) c) ≡ filter (λ k. not (is_false b k)) c
opened_again a b [] kept = refl
opened_again a b (l ∷ ls) kept =
    opened_by a b l (filter (λ k. not (is_false a k)) ls) (filter (λ k. not (is_false b k)) ls) (is_false a l) (is_false b l) refl refl (false_kept a b l kept) (sym (opened_again a b ls kept))

has_none : (o : Option Bool) (p : Bool) → o ≡ None → has_value o p ≡ false
has_none None p h = refl
has_none (Some t) p h = cc

only_still : (a b : ℕ → Option Bool) (ls : List Literal) (l : Literal) → only_literal a ls ≡ Some l → b l.variable ≡ None → only_literal b (filter (λ k. not (is_false b k)) ls) ≡ Some l
only_still a b [] l is free = cc
only_still a b (k ∷ []) l is free = only_one (is_true a k) is
  where
    only_one : (t : Bool) → (if t then None else Some k) ≡ Some l → only_literal b (filter (λ m. not (is_false b m)) (k ∷ [])) ≡ Some l
    only_one true h = cc
    only_one false h =
        let same : k ≡ l = cc in
        let open_k : b k.variable ≡ None = ap (λ (m : Literal). b m.variable) same ∙ free in
        rw (has_none (b k.variable) (not k.positive) open_k, has_none (b k.variable) k.positive open_k) (ap Some same)
only_still a b (k ∷ m ∷ ms) l is free = cc

pub unit_kept : (a b : ℕ → Option Bool) (c : List Literal) (l : Literal) → Extends a b → b l.variable ≡ None → unit_literal a c ≡ Some l → unit_literal b c ≡ Some l
unfolding open_literals
unit_kept a b c l kept free is =
    ap (only_literal b) (sym (opened_again a b c kept)) ∙ only_still a b (filter (λ k. not (is_false a k)) c) l is free

pub hint_kept : (a b : ℕ → Option Bool) (o : Option (List Literal)) (l : Literal) → Extends a b → b l.variable ≡ None → unit_of_hint a o ≡ Some l → unit_of_hint b o ≡ Some l
hint_kept a b None l kept free is = cc
hint_kept a b (Some c) l kept free is = unit_kept a b c l kept free is

pub hint_falsified_kept : (a b : ℕ → Option Bool) (o : Option (List Literal)) → Extends a b → hint_is_falsified a o ≡ true → hint_is_falsified b o ≡ true
hint_falsified_kept a b None kept h = absurd (false≢true h)
hint_falsified_kept a b (Some c) kept h = falsified_kept a b c kept h

-- the values of a trail are kept by those that come later
pub trail_extends : (clauses : List (List Literal)) (es : List Entry) (a : ℕ → Option Bool) → IsTrailFrom clauses a es → Extends a (assigned a es)
unfolding IsTrailFrom
trail_extends clauses [] a h x t has = has
trail_extends clauses (e ∷ es) a h x t has = trail_extends clauses es (assign a e.literal) h.2 x t (assign-extends a e.literal h.0 x t has)

-- one more entry, and fewer
pub trail_more : (clauses : List (List Literal)) (es : List Entry) (a : ℕ → Option Bool) (e : Entry) → IsTrailFrom clauses a es → assigned a es e.literal.variable ≡ None → IsMadeTrue clauses (assigned a es) e.literal e.reason → IsTrailFrom clauses a (es ++ e ∷ [])
unfolding IsTrailFrom
trail_more clauses [] a e h free made = (free, made, tt)
trail_more clauses (d ∷ ds) a e h free made = (h.0, h.1, trail_more clauses ds (assign a d.literal) e h.2 free made)

-- one more clause, which is calm before each decision
numbered_by : (clauses more : List (List Literal)) (i : ℕ) (c : List Literal) (t : Bool) → (if t then None else slice_get clauses i) ≡ Some c → (if t then None else slice_get (clauses ++ more) i) ≡ Some c
numbered_by clauses more i c true h = h
numbered_by clauses more i c false h = got_more clauses more i c h

pub hint_more : (clauses more : List (List Literal)) (n : ℕ) (a : ℕ → Option Bool) (l : Literal) → unit_of_hint a (numbered clauses n) ≡ Some l → unit_of_hint a (numbered (clauses ++ more) n) ≡ Some l
hint_more clauses more n a l h = hint_by (numbered clauses n) refl h
  where
    hint_by : (o : Option (List Literal)) → numbered clauses n ≡ o → unit_of_hint a o ≡ Some l → unit_of_hint a (numbered (clauses ++ more) n) ≡ Some l
    hint_by None is k = cc
    hint_by (Some c) is k = ap (unit_of_hint a) (numbered_by clauses more (n - 1) c (n == 0) is) ∙ k

calm_with : (clauses : List (List Literal)) (a : ℕ → Option Bool) (c : List Literal) → AreCalm a clauses → IsCalm a c → AreCalm a (clauses ++ c ∷ [])
calm_with clauses a c calm here k d at =
    elim (at_more clauses c d k at) [
      | inl before ↦ calm k d before
      | inr last ↦ subst (λ (b : List Literal). IsCalm a b) last.1 here
    ]

made_with : (clauses : List (List Literal)) (a : ℕ → Option Bool) (l : Literal) (o : Option ℕ) (c : List Literal) → IsMadeTrue clauses a l o → (o ≡ None → IsCalm a c) → IsMadeTrue (clauses ++ c ∷ []) a l o
made_with clauses a l None c made calm = (calm_with clauses a c made.0 (calm refl), occurs_more clauses (c ∷ []) l.variable made.1)
made_with clauses a l (Some n) c made calm = hint_more clauses (c ∷ []) n a l made

pub trail_with : (clauses : List (List Literal)) (es : List Entry) (a : ℕ → Option Bool) (c : List Literal) → IsTrailFrom clauses a es → ((p : ℕ) → IsDecisionAt es p → IsCalm (assigned a (take p es)) c) → IsTrailFrom (clauses ++ c ∷ []) a es
unfolding IsTrailFrom
trail_with clauses [] a c h calm = tt
trail_with clauses (e ∷ es) a c h calm =
    (h.0, made_with clauses a e.literal e.reason c h.1 (λ none. calm 0 (e, refl, none)), trail_with clauses es (assign a e.literal) c h.2 (λ p is. calm (suc p) is))

-- before a decision each clause is calm
decided_calm : (clauses : List (List Literal)) (a : ℕ → Option Bool) (l : Literal) (o : Option ℕ) → o ≡ None → IsMadeTrue clauses a l o → AreCalm a clauses
decided_calm clauses a l None none made = made.0
decided_calm clauses a l (Some n) none made = cc

pub calm_before : (clauses : List (List Literal)) (es : List Entry) (a : ℕ → Option Bool) (p : ℕ) → IsTrailFrom clauses a es → IsDecisionAt es p → AreCalm (assigned a (take p es)) clauses
unfolding IsTrailFrom
calm_before clauses [] a p h (e, at, none) = absurd (let k : None ≡ Some e = at in cc)
calm_before clauses (d ∷ ds) a zero h (e, at, none) =
    let same : d ≡ e = cc in
    decided_calm clauses a d.literal d.reason (ap (λ (k : Entry). k.reason) same ∙ none) h.1
calm_before clauses (d ∷ ds) a (suc p) h is = calm_before clauses ds (assign a d.literal) p h.2 is

-- a beginning of a trail is one
front_is_trail : (clauses : List (List Literal)) (es rest : List Entry) (a : ℕ → Option Bool) → IsTrailFrom clauses a (es ++ rest) → IsTrailFrom clauses a es
unfolding IsTrailFrom
front_is_trail clauses [] rest a h = tt
front_is_trail clauses (e ∷ es) rest a h = (h.0, h.1, front_is_trail clauses es rest (assign a e.literal) h.2)

pub first_is_trail : (clauses : List (List Literal)) (es : List Entry) (a : ℕ → Option Bool) (n : ℕ) → IsTrailFrom clauses a es → IsTrailFrom clauses a (take n es)
first_is_trail clauses es a n h = front_is_trail clauses (take n es) (drop n es) a (subst (λ (ds : List Entry). IsTrailFrom clauses a ds) (sym (take-append-drop n es)) h)

pub no_trail : (clauses : List (List Literal)) (a : ℕ → Option Bool) → IsTrailFrom clauses a []
unfolding IsTrailFrom
no_trail clauses a = tt

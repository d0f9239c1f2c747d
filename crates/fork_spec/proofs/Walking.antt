use Rattle.std.proofs.Common.{◌≡◌, ◌∙◌, ◌≤◌, ℕ, Bool, true, false, ◌&&◌, ◌||◌, ◌+◌, IsTrue, List, [], ◌∷◌, ◌++◌, Option, Some, None, ap, sym, refl, subst, arith, drop, length, map, nat_le, option_and_then}
use Rattle.std.proofs.lemmas.Bool.Decides.{nat_tests}
use Rattle.std.proofs.lemmas.List.{append-nil, length-append, length-map}
use Rattle.tree_core.specs.declared.cause.Cause.{Cause}
use Rattle.fork_spec.specs.Walks.{Bounds, Line, Side, Standing, are_branch_sides, are_sides, are_small, are_values, is_increasing, is_rest, is_rest_cut, rest_side, walk_step, value_side, values_first, walk_from}

-- a walk that goes on, from where the first line leads if it leads anywhere
after_step : (bounds : Bounds) (events count : ℕ) (more : List Line) (first : List Line) →
    ((nodes : List Standing) → walk_from bounds events nodes (first ++ more) ≡ option_and_then (λ reached. walk_from bounds count reached more) (walk_from bounds events nodes first)) →
    (next : Option (List Standing)) →
    option_and_then (λ nodes. walk_from bounds events nodes (first ++ more)) next
    ≡ option_and_then (λ reached. walk_from bounds count reached more) (option_and_then (λ nodes. walk_from bounds events nodes first) next)
after_step bounds events count more first goes_on None = refl
after_step bounds events count more first goes_on (Some nodes) = goes_on nodes

pub walk_goes_on : (bounds : Bounds) (events : ℕ) (nodes : List Standing) (first more : List Line) →
    walk_from bounds events nodes (first ++ more) ≡ option_and_then (λ reached. walk_from bounds (events + length first) reached more) (walk_from bounds events nodes first)
unfolding walk_from
walk_goes_on bounds events nodes [] more = ap (λ n. walk_from bounds n nodes more) none_more
  where
    none_more : events ≡ events + 0
    none_more = omega arith
walk_goes_on bounds events nodes (event ∷ first) more =
    after_step bounds (events + 1) (events + length (event ∷ first)) more first
    (λ next. walk_goes_on bounds (events + 1) next first more ∙ ap (λ n. option_and_then (λ reached. walk_from bounds n reached more) (walk_from bounds (events + 1) next first)) one_more)
    (walk_step bounds events nodes event)
  where
    one_more : (events + 1) + length first ≡ events + length (event ∷ first)
    one_more = omega arith

-- the values come first, whatever else comes behind them
values_then : (values : List ℕ) (behind : List Side) → values_first behind ≡ [] → values_first (map value_side values ++ behind) ≡ values
unfolding values_first
values_then [] behind none = none
values_then (v ∷ vs) behind none = ap (λ ws. v ∷ ws) (values_then vs behind none)

behind_values : (values : List ℕ) (behind : List Side) → drop (length values) (map value_side values ++ behind) ≡ behind
behind_values [] behind = refl
behind_values (v ∷ vs) behind = behind_values vs behind

either : (a b : Bool) → IsTrue b → IsTrue (a || b)
either true b h = refl
either false b h = h

both : (a b : Bool) → IsTrue a → IsTrue b → IsTrue (a && b)
both true b ha hb = hb
both false b ha hb = ha

all_six : (a b c d e f : Bool) → IsTrue a → IsTrue b → IsTrue c → IsTrue d → IsTrue e → IsTrue f → IsTrue (a && b && c && d && e && f)
all_six a b c d e f ha hb hc hd he hf =
    both (a && b && c && d && e) f (both (a && b && c && d) e (both (a && b && c) d (both (a && b) c (both a b ha hb) hc) hd) he) hf

-- values and what may come behind them
values_part : (targets : ℕ) (values : List ℕ) (behind : List Side) → values_first behind ≡ [] →
    IsTrue (is_increasing values) → IsTrue (are_small values) → 1 ≤ length values → length values ≤ targets → IsTrue (is_rest targets (length values) behind) →
    2 ≤ length (map value_side values ++ behind) → IsTrue (are_values targets (map value_side values ++ behind))
unfolding are_values
values_part targets values behind none increasing small some few rest two =
    let kids = map value_side values ++ behind in
    let first : values_first kids ≡ values = values_then values behind none in
    all_six _ _ _ _ _ _
    (subst (λ vs. IsTrue (is_increasing vs)) (sym first) increasing)
    (subst (λ vs. IsTrue (are_small vs)) (sym first) small)
    (subst (λ (vs : List ℕ). IsTrue (nat_le 1 (length vs))) (sym first) (grind (arith, nat_tests)))
    (subst (λ (vs : List ℕ). IsTrue (nat_le (length vs) targets)) (sym first) (grind (arith, nat_tests)))
    (subst (λ (vs : List ℕ). IsTrue (is_rest targets (length vs) (drop (length vs) kids))) (sym first)
    (subst (λ ks. IsTrue (is_rest targets (length values) ks)) (sym (behind_values values behind)) rest))
    (grind (arith, nat_tests))

pub part_into_values : (targets : ℕ) (values : List ℕ) → IsTrue (is_increasing values) → IsTrue (are_small values) → 2 ≤ length values → length values ≤ targets →
    IsTrue (are_sides targets (map value_side values))
unfolding values_first
part_into_values targets values increasing small two few =
    let some : 1 ≤ length values = omega (arith, two) in
    let count : length (map value_side values ++ []) ≡ length values = ap length (append-nil (map value_side values)) ∙ length-map values value_side in
    let kids : 2 ≤ length (map value_side values ++ []) = omega (arith, two, count) in
    either (are_branch_sides (map value_side values)) _
    (subst (λ ks. IsTrue (are_values targets ks)) (append-nil (map value_side values)) (values_part targets values [] refl increasing small some few refl kids))

pub part_into_values_and_rest : (targets : ℕ) (values : List ℕ) (cut : Option Cause) → IsTrue (is_increasing values) → IsTrue (are_small values) → 1 ≤ length values → length values ≤ targets →
    IsTrue (is_rest_cut targets (length values) cut) → IsTrue (are_sides targets (map value_side values ++ rest_side cut ∷ []))
unfolding values_first
part_into_values_and_rest targets values cut increasing small some few allowed =
    let count : length (map value_side values ++ rest_side cut ∷ []) ≡ length values + 1 =
    length-append (map value_side values) (rest_side cut ∷ []) ∙ ap (λ n. n + 1) (length-map values value_side) in
    let two : 2 ≤ length (map value_side values ++ rest_side cut ∷ []) = omega (arith, some, count) in
    either (are_branch_sides (map value_side values ++ rest_side cut ∷ [])) _
    (values_part targets values (rest_side cut ∷ []) refl increasing small some few allowed two)

-- The sides of a split as those of values, and what may stand behind them.
use Rattle.std.proofs.Common.{◌≡◌, ℕ, List, [], ◌∷◌, ◌++◌, length, map, refl, sym, ap, subst, ◌∙◌, arith}
use Rattle.std.specs.Prelude.{Option, None, Some}
use Rattle.fork_spec.specs.Evidence.{AreIncreasing}
use Rattle.fork_spec.specs.Walks.{Side, rest_side, value_side}
use Rattle.tree_core.specs.declared.choice.Choice.TheVariants.{Rest, Value}
use Rattle.cert_audit.specs.ForkFaults.{AreValueSides, BeginsWithNoValue, IsNoRest}
use Rattle.cert_audit.specs.Kids.{rest_cause, sides_behind}
use Rattle.cert_audit.specs.declared.values.RestCut.{RestCut}

value_is_no_rest : (v : ℕ) (more : List Side) (rest : Option RestCut) → value_side v ∷ more ≡ sides_behind rest → ⊥
value_is_no_rest v more None same = cc
value_is_no_rest v more (Some cut) same =
    let head : value_side v ≡ rest_side (Some (rest_cause cut)) = cc in
    let choice : Value v ≡ Rest = ap (λ (s : Side). s.choice) head in
    cc

-- sides are those of values in one way
pub one_way : (vs ws : List ℕ) (others : List Side) (rest : Option RestCut) → BeginsWithNoValue others → map value_side vs ++ others ≡ map value_side ws ++ sides_behind rest
    → (vs ≡ ws) × (others ≡ sides_behind rest)
one_way [] [] others rest none same = (refl, same)
one_way [] (w ∷ ws) others rest none same = absurd (none w (map value_side ws ++ sides_behind rest) same)
one_way (v ∷ vs) [] others rest none same = absurd (value_is_no_rest v (map value_side vs ++ others) rest same)
one_way (v ∷ vs) (w ∷ ws) others rest none same =
    let head : value_side v ≡ value_side w = cc in
    let choice : Value v ≡ Value w = ap (λ (s : Side). s.choice) head in
    let first : v ≡ w = cc in
    let behind : map value_side vs ++ others ≡ map value_side ws ++ sides_behind rest = cc in
    let more = one_way vs ws others rest none behind in
    (ap (λ x. x ∷ vs) first ∙ ap (λ xs. w ∷ xs) more.0, more.1)

module _ (sides others : List Side) (vs : List ℕ) (split : sides ≡ map value_side vs ++ others) (none : BeginsWithNoValue others) where
  -- what stands behind them is no rest
  pub no_rest : IsNoRest others → (ws : List ℕ) (rest : Option RestCut) → AreValueSides sides ws rest → ⊥
  no_rest never ws rest are = never rest (one_way vs ws others rest none (sym split ∙ are.are)).1

  -- the values are these
  pub same_values : (ws : List ℕ) (rest : Option RestCut) → AreValueSides sides ws rest → ws ≡ vs
  same_values ws rest are = sym (one_way vs ws others rest none (sym split ∙ are.are)).0

  pub no_values : length vs ≡ 0 → (ws : List ℕ) (rest : Option RestCut) → AreValueSides sides ws rest → ⊥
  no_values empty ws rest are = absurd (omega (arith, are.some, ap length (same_values ws rest are), empty))

  pub not_increasing : (AreIncreasing vs → ⊥) → (ws : List ℕ) (rest : Option RestCut) → AreValueSides sides ws rest → ⊥
  not_increasing never ws rest are = never (subst AreIncreasing (same_values ws rest are) are.increasing)

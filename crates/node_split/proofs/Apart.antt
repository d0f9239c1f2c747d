-- The sides of a fork are apart: the runs that they stand for have decided alike before it, and
-- there they decide as their sides say.
use Rattle.std.proofs.Common.{◌≡◌, ◌≢◌, ℕ, zero, suc, ◌+◌, ◌<◌, ◌≤◌, inl, inr, true, List, [], ◌∷◌, ◌++◌, refl, sym, ap, ◌∙◌, subst, arith, add-one}
use Rattle.std.specs.Prelude.{All, IsTrue, None, Some, slice_get}
use Rattle.std.proofs.lemmas.Bool.{cases_lt}
use Rattle.std.proofs.lemmas.List.{append_assoc, append-nil}
use Rattle.std.proofs.lemmas.List.Elements.{All-head, All-tail}
use Rattle.fork_spec.specs.Decisions.{Decision, decisions, decisions_from, run_decisions, step_decisions}
use Rattle.rv_spec.specs.Machine.{State, first_state}
use Rattle.rv_spec.specs.Runs.{Run, run, run_from}
use Rattle.fork_spec.specs.Partings.{ArePlacesApart, IsOnSide}
use Rattle.fork_tree.specs.NodesApart.{AreKidsApart}
use Rattle.sym_state.specs.Programs.{Program}
use Rattle.sym_state.specs.Runs.{IsOpen}
use Rattle.sym_state.specs.Symbolic.{Symbolic, concrete, stands_for}
use Rattle.sym_state.specs.Undecided.{StandsAt}
use Rattle.node_split.specs.Rules.{Piece, content_place}

-- a list that goes on from another
record GoesOnFrom (front whole : List Decision) : Type 0 where
  pub more : List Decision
  pub is : whole ≡ front ++ more

-- what a run decides in more steps goes on from what it decides in fewer
decisions_on : (first : State) (few most : ℕ) → few ≤ most
    → GoesOnFrom (decisions_from first few) (decisions_from first most)
unfolding decisions_from
decisions_on first few zero within =
    let same : few ≡ 0 = omega (arith, within) in
    record { more = []; is = ap (decisions_from first) (sym same) ∙ sym (append-nil (decisions_from first few)) }
decisions_on first few (suc most) within = elim (cases_lt few (suc most)) [
  | inl less ↦
      let before = decisions_on first few most (omega (arith, less)) in
      let r = run_from first most in
      record {
        more = before.more ++ run_decisions r r.end;
        is = ap (λ ds. ds ++ run_decisions r r.end) before.is ∙ append_assoc (decisions_from first few) before.more (run_decisions r r.end);
      }
  | inr there ↦
      let same : few ≡ suc most = omega (arith, within, there) in
      record { more = []; is = ap (decisions_from first) (sym same) ∙ sym (append-nil (decisions_from first few)) }
]

-- of a run that has not ended
decisions_more : (p : Program) (input : List ℕ) (steps : ℕ) (c : State)
    → run p.image p.regions input steps ≡ record { state = c; end = None; steps = steps }
    → decisions p.image p.regions input (steps + 1) ≡ decisions p.image p.regions input steps ++ step_decisions c
unfolding decisions_from
decisions_more p input steps c is =
    ap (λ k. decisions_from (first_state p.image p.regions input) k) (add-one steps)
    ∙ ap (λ (r : Run). decisions p.image p.regions input steps ++ run_decisions r r.end) is

-- these decisions, then this one, then more
record HasDecision (front : List Decision) (decision : Decision) (whole : List Decision)
    : Type 0 where
  pub back : List Decision
  pub is : whole ≡ front ++ decision ∷ back

move_front : (made front back more : List Decision) (decision : Decision)
    → (made ++ (front ++ decision ∷ back)) ++ more ≡ (made ++ front) ++ decision ∷ (back ++ more)
move_front made front back more decision =
    append_assoc made (front ++ decision ∷ back) more
    ∙ ap (λ ds. made ++ ds) (append_assoc front (decision ∷ back) more)
    ∙ sym (append_assoc made front (decision ∷ (back ++ more)))

-- what a run decides at a fork
decides_there : (p : Program) (s : Symbolic) (most place : ℕ) (decision : List ℕ → Decision)
    → (was : IsOpen p s) → s.steps < most → (next : StandsAt s place decision)
    → (input : List ℕ) → stands_for s input ≡ true
    → HasDecision (was.alike.made ++ next.front) (decision input) (decisions p.image p.regions input most)
decides_there p s most place decision was few next input stands =
    let on = decisions_on (first_state p.image p.regions input) (s.steps + 1) most (omega (arith, few)) in
    let so_far : decisions p.image p.regions input (s.steps + 1) ≡ was.alike.made ++ (next.front ++ decision input ∷ next.back input)
    = decisions_more p input s.steps (concrete s input) (was.sound input stands)
    ∙ ap (λ ds. ds ++ step_decisions (concrete s input)) (was.alike.alike input stands)
    ∙ ap (λ ds. was.alike.made ++ ds) (next.is input stands) in
    record {
      back = next.back input ++ on.more;
      is = on.is ∙ ap (λ ds. ds ++ on.more) so_far ∙ move_front was.alike.made next.front (next.back input) on.more (decision input);
    }

-- a side of a fork: what it stands for is some of what the run stands for, and decides as the side
-- says
pub record IsOnFork (s : Symbolic) (decision : List ℕ → Decision) (kid : Piece)
    : Type 0 where
  pub choices : (content_place kid.content).choices ≡ s.choices ++ kid.choice ∷ []
  pub stands : (input : List ℕ) → IsTrue ((content_place kid.content).covers input)
      → stands_for s input ≡ true
  pub on_side : (input : List ℕ) → IsTrue ((content_place kid.content).covers input)
      → IsOnSide kid.choice (decision input)

-- two sides of one fork
pub record AreTwoSides (decision : List ℕ → Decision) (one other : Piece) : Type 0 where
  pub choices : one.choice ≢ other.choice
  pub decisions : (a b : List ℕ) → IsTrue ((content_place one.content).covers a)
      → IsTrue ((content_place other.content).covers b) → decision a ≢ decision b

swapped : (decision : List ℕ → Decision) (one other : Piece) → AreTwoSides decision one other
    → AreTwoSides decision other one
swapped decision one other are = record {
  choices = λ is. are.choices (sym is);
  decisions = λ a b on_a on_b is. are.decisions b a on_b on_a (sym is);
}

module _ (p : Program) (s : Symbolic) (most place : ℕ) (decision : List ℕ → Decision) (was : IsOpen p s) (few : s.steps < most) (next : StandsAt s place decision) where
  sides_apart : (one other : Piece) → IsOnFork s decision one → IsOnFork s decision other
      → AreTwoSides decision one other
      → ArePlacesApart (λ input. decisions p.image p.regions input most) (content_place one.content) (content_place other.content)
  sides_apart one other is_one is_other are = record {
    c = one.choice;
    d = other.choice;
    first = record { front = s.choices; one_back = []; other_back = []; one = is_one.choices; other = is_other.choices; differ = are.choices };
    part = λ a b on_a on_b.
        let there_a = decides_there p s most place decision was few next a (is_one.stands a on_a) in
        let there_b = decides_there p s most place decision was few next b (is_other.stands b on_b) in
        record {
          front = was.alike.made ++ next.front;
          one_decision = decision a;
          other_decision = decision b;
          one_back = there_a.back;
          other_back = there_b.back;
          one = there_a.is;
          other = there_b.is;
          differ = are.decisions a b on_a on_b;
          one_side = is_one.on_side a on_a;
          other_side = is_other.on_side b on_b;
        };
  }

-- each is another side than those behind it
abbrev pub AreOtherSides : (List ℕ → Decision) → List Piece → Type 0
AreOtherSides decision [] = Unit {0}
AreOtherSides decision (kid ∷ kids) =
    All (AreTwoSides decision kid) kids × AreOtherSides decision kids

-- what holds of all holds of the one at a place
at_index : (P : Piece → Type 0) (kids : List Piece) (i : ℕ) (kid : Piece) → All P kids
    → slice_get kids i ≡ Some kid → P kid
at_index P [] i kid all there = absurd (cc there)
at_index P (k ∷ ks) zero kid all there =
    let same : k ≡ kid = cc there in subst P same (All-head P k ks all)
at_index P (k ∷ ks) (suc i) kid all there = at_index P ks i kid (All-tail P k ks all) there

two_of : (decision : List ℕ → Decision) (kids : List Piece) (i j : ℕ) (a b : Piece)
    → AreOtherSides decision kids → i ≢ j → slice_get kids i ≡ Some a → slice_get kids j ≡ Some b
    → AreTwoSides decision a b
two_of decision [] i j a b are apart at_i at_j = absurd (cc at_i)
two_of decision (k ∷ ks) zero zero a b are apart at_i at_j = absurd (apart refl)
two_of decision (k ∷ ks) zero (suc j) a b (first, rest) apart at_i at_j =
    let same : k ≡ a = cc at_i in subst (λ (x : Piece). AreTwoSides decision x b) same (at_index (AreTwoSides decision k) ks j b first at_j)
two_of decision (k ∷ ks) (suc i) zero a b (first, rest) apart at_i at_j =
    let same : k ≡ b = cc at_j in swapped decision b a (subst (λ (x : Piece). AreTwoSides decision x a) same (at_index (AreTwoSides decision k) ks i a first at_i))
two_of decision (k ∷ ks) (suc i) (suc j) a b (first, rest) apart at_i at_j =
    two_of decision ks i j a b rest (λ is. apart (ap suc is)) at_i at_j

-- any two sides of a fork are apart
pub kids_apart : (p : Program) (s : Symbolic) (most place : ℕ) (decision : List ℕ → Decision)
    (kids : List Piece) → IsOpen p s → s.steps < most → StandsAt s place decision
    → All (IsOnFork s decision) kids → AreOtherSides decision kids
    → AreKidsApart content_place (λ input. decisions p.image p.regions input most) kids
kids_apart p s most place decision kids was few next each are = λ i j a b apart at_i at_j.
    sides_apart p s most place decision was few next a b
    (at_index (IsOnFork s decision) kids i a each at_i) (at_index (IsOnFork s decision) kids j b each at_j) (two_of decision kids i j a b are apart at_i at_j)

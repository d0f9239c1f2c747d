use Rattle.std.proofs.Common.{◌≡◌, ℕ, zero, suc, ◌+◌, ◌-◌, ◌<◌, ◌≤◌, ◌==◌, ◌||◌, nat_le, Bool, true, false, if◌then◌else◌, IsTrue, Some, None, List, [], ◌∷◌, ◌++◌, length, replicate, append_assoc, sym, refl, ap, ◌∙◌, subst, arith}
use Rattle.std.specs.List.{All}
use Rattle.std.proofs.lemmas.Bool.Decides.{nat_tests}
use Rattle.std.proofs.lemmas.List.{append-nil, replicate-append-replicate}
use Rattle.std.proofs.lemmas.List.Elements.{All-cons, All-nil}
use Rattle.std.proofs.lemmas.List.Sums.{sum_by-cons}
use Rattle.fork_spec.specs.Decisions.{Decision, Side}
use Rattle.tree_core.specs.declared.cause.Cause.TheVariants.{Conflicts}
use Rattle.tree_core.specs.declared.choice.Choice.{Choice}
use Rattle.tree_core.specs.declared.choice.Choice.TheVariants.{No, Yes}
use Rattle.tree_core.specs.declared.order.Order.TheVariants.{Deepest}
use Rattle.tree_core.specs.declared.event.Kid.{Kid}
use Rattle.tree_core.specs.Covers.{one_if}
use Rattle.fork_spec.specs.Partings.{ArePlacesApart, Place}
use Rattle.fork_tree.specs.NodesApart.{AreKidsApart}
use Rattle.fork_spec.specs.Walks.{Side as BranchSide, are_branch_sides, are_sides, are_values, is_one_cut_at_most}
use Rattle.fork_tree.specs.Written.{side_of_kid}
use Rattle.fork_tree.proofs.Walked.{none_is_some, same_held}
use Rattle.fork_tree.specs.Contents.{choices_in, cut_in, place_in}
use Rattle.fork_tree.specs.Nodes.{StateIs}
use Rattle.fork_tree.specs.Works.{IsPart, IsSplit, Rules}
use Rattle.fork_tree.specs.declared.content.Content.{Content}
use Rattle.fork_tree.specs.declared.content.Content.TheVariants.{Open, Shut}
use Rattle.test_runs.specs.declared.of_fork_tree.Rung.{Rung}
use Rattle.test_runs.specs.declared.of_fork_tree.End.{End}
use Rattle.test_runs.proofs.of_fork_tree.ClimberWork.work.Goals as goal

abbrev rung_place : Rung → Place
rung_place r =
    record {
      choices = replicate r.from Yes ++ (if r.just then No ∷ [] else []);
      covers = λ input.
          if r.just then length input == r.from else nat_le r.from (length input);
      cut = None;
    }

abbrev end_place : End → Place
end_place e = record (rung_place e.rung) { cut = e.cut }

abbrev decides : List ℕ → List Decision
decides input = replicate (length input) (Side true) ++ Side false ∷ []

abbrev rules : (top nodes : ℕ) → Rules Rung End
rules top nodes = record {
  left = λ r. if r.just then 0 else top + 1 - r.from;
  targets = 2;
  nodes = nodes;
  order = Deepest;
  decides = decides;
  IsWell = λ r. r.from ≤ top;
  IsRight = λ sides nodes e. e.cut ≡ Some Conflicts → sides ≡ No ∷ Yes ∷ [];
}

abbrev ends_here : ℕ → Rung
ends_here f = record { from = f; just = true }

abbrev climbs_on : ℕ → Rung
climbs_on f = record { from = f; just = false }

one_more : {X : Type 0} (n : ℕ) (x : X) → replicate (n + 1) x ≡ replicate n x ++ x ∷ []
one_more n x = sym (replicate-append-replicate n 1 x)

-- so many numbers, or more
either : (n f : ℕ) → one_if (n == f) + (one_if (nat_le (f + 1) n) + 0) ≡ one_if (nat_le f n)
either n f = grind (arith, nat_tests)

is_same_number : (n f : ℕ) → (n == f) ≡ true → n ≡ f
is_same_number n f is = grind (arith, nat_tests)

is_at_least : (n f : ℕ) → nat_le f n ≡ true → f ≤ n
is_at_least n f is = grind (arith, nat_tests)

-- the run of more numbers takes the branch where that of just so many ends
ends : (f : ℕ) (a : List ℕ) → (length a == f) ≡ true →
    decides a ≡ replicate f (Side true) ++ Side false ∷ []
ends f a is = ap (λ n. replicate n (Side true) ++ Side false ∷ []) (is_same_number (length a) f is)

goes_on : (f : ℕ) (b : List ℕ) → nat_le (f + 1) (length b) ≡ true →
    decides b ≡ replicate f (Side true) ++ Side true ∷
    (replicate (length b - (f + 1)) (Side true) ++ Side false ∷ [])
goes_on f b is =
    let more : f + 1 ≤ length b = is_at_least (length b) (f + 1) is in
    let sum : (f + 1) + (length b - (f + 1)) ≡ length b = omega (arith, more) in
    let rest : List Decision = replicate (length b - (f + 1)) (Side true) in
    ap (λ n. replicate n (Side true) ++ Side false ∷ []) (sym sum)
    ∙ ap (λ ds. ds ++ Side false ∷ [])
    (sym (replicate-append-replicate (f + 1) (length b - (f + 1)) (Side true)))
    ∙ append_assoc (replicate (f + 1) (Side true)) rest (Side false ∷ [])
    ∙ ap (λ ds. ds ++ (rest ++ Side false ∷ [])) (one_more f (Side true))
    ∙ append_assoc (replicate f (Side true)) (Side true ∷ []) (rest ++ Side false ∷ [])

up_choices : (f : ℕ) → replicate (f + 1) Yes ++ [] ≡ replicate f Yes ++ Yes ∷ []
up_choices f = append-nil (replicate (f + 1) Yes) ∙ one_more f Yes

apart_up : (f : ℕ) →
    ArePlacesApart decides (rung_place (ends_here f)) (rung_place (climbs_on (f + 1)))
apart_up f = record {
  c = No;
  d = Yes;
  first = record {
    front = replicate f Yes;
    one_back = [];
    other_back = [];
    one = refl;
    other = up_choices f;
    differ = λ is. cc;
  };
  part = λ a b here above. record {
    front = replicate f (Side true);
    one_decision = Side false;
    other_decision = Side true;
    one_back = [];
    other_back = replicate (length b - (f + 1)) (Side true) ++ Side false ∷ [];
    one = ends f a here;
    other = goes_on f b above;
    differ = λ is. cc;
    one_side = refl;
    other_side = refl;
  };
}

apart_down : (f : ℕ) →
    ArePlacesApart decides (rung_place (climbs_on (f + 1))) (rung_place (ends_here f))
apart_down f = record {
  c = Yes;
  d = No;
  first = record {
    front = replicate f Yes;
    one_back = [];
    other_back = [];
    one = up_choices f;
    other = refl;
    differ = λ is. cc;
  };
  part = λ a b above here. record {
    front = replicate f (Side true);
    one_decision = Side true;
    other_decision = Side false;
    one_back = replicate (length a - (f + 1)) (Side true) ++ Side false ∷ [];
    other_back = [];
    one = goes_on f a above;
    other = ends f b here;
    differ = λ is. cc;
    one_side = refl;
    other_side = refl;
  };
}

-- why a place was cut has no part in it
uncut : (p q : Place) →
    ArePlacesApart decides (record p { cut = None }) (record q { cut = None }) →
    ArePlacesApart decides p q
uncut p q there = record { c = there.c; d = there.d; first = there.first; part = there.part }

-- the second side, by what its content is
open_place : (c : Content Rung End) (r : Rung) → StateIs (Some c) r →
    place_in rung_place end_place c ≡ rung_place r
open_place (Open a) r is = ap rung_place is
open_place (Shut e) r is = absurd is

less_left : (top f : ℕ) → f < top → top + 1 - (f + 1) < top + 1 - f
less_left top f lt = omega arith

open_part : (top nodes f : ℕ) (choices : List Choice) (kid : Kid (Content Rung End))
    (c : Content Rung End) →
    f < top → kid.is_leaf ≡ false → StateIs (Some c) (climbs_on (f + 1)) →
    IsPart (rules top nodes) end_place (top + 1 - f) choices kid c
open_part top nodes f choices kid (Open a) lt open' is = (
  open',
  subst (λ (r : Rung). r.from ≤ top) (sym is) (omega arith),
  subst (λ (r : Rung). (if r.just then 0 else top + 1 - r.from) < top + 1 - f) (sym is)
      (less_left top f lt),
)
open_part top nodes f choices kid (Shut e) lt open' is = absurd is

two_apart : (p q : Kid (Content Rung End)) →
    ArePlacesApart decides (place_in rung_place end_place p.content)
    (place_in rung_place end_place q.content) →
    ArePlacesApart decides (place_in rung_place end_place q.content)
    (place_in rung_place end_place p.content) →
    AreKidsApart (place_in rung_place end_place) decides (p ∷ q ∷ [])
two_apart p q there back zero zero a b ne at bt = absurd (ne refl)
two_apart p q there back zero (suc zero) a b ne at bt =
    subst (λ (k : Kid (Content Rung End) × Kid (Content Rung End)). ArePlacesApart decides
    (place_in rung_place end_place k.0.content) (place_in rung_place end_place k.1.content))
    (λ i. (same_held p a at i, same_held q b bt i)) there
two_apart p q there back zero (suc (suc j)) a b ne at bt = absurd (none_is_some b bt)
two_apart p q there back (suc zero) zero a b ne at bt =
    subst (λ (k : Kid (Content Rung End) × Kid (Content Rung End)). ArePlacesApart decides
    (place_in rung_place end_place k.0.content) (place_in rung_place end_place k.1.content))
    (λ i. (same_held q a at i, same_held p b bt i)) back
two_apart p q there back (suc zero) (suc zero) a b ne at bt = absurd (ne refl)
two_apart p q there back (suc zero) (suc (suc j)) a b ne at bt = absurd (none_is_some b bt)
two_apart p q there back (suc (suc i)) j a b ne at bt = absurd (none_is_some a at)

first_holds : (a b : Bool) → IsTrue a → IsTrue (a || b)
first_holds true b h = refl
first_holds false b h = absurd (none_is_true h)
  where
    none_is_true : false ≡ true → ⊥
    none_is_true is = cc

-- the two sides as they are written
abbrev written_sides : Kid (Content Rung End) → List BranchSide
written_sides low =
    record { choice = No; cut = (side_of_kid (cut_in rung_place end_place) low).cut } ∷ record
    { choice = Yes; cut = None } ∷ []

two_sides : (top nodes f : ℕ) (low high : Kid (Content Rung End)) → f < top → low.choice ≡ No →
    record (place_in rung_place end_place low.content) { cut = None } ≡ rung_place (ends_here f) →
    IsTrue (is_one_cut_at_most (side_of_kid (cut_in rung_place end_place) low).cut None) →
    ((limit : ℕ) → 0 < limit → IsPart (rules top nodes) end_place limit (No ∷ Yes ∷ []) low low.content) →
    high.choice ≡ Yes → high.is_leaf ≡ false → StateIs (Some high.content) (climbs_on (f + 1)) →
    IsSplit (rules top nodes) rung_place end_place (climbs_on f) (low ∷ high ∷ [])
two_sides top nodes f low high lt low_choice low_place low_cut low_part high_choice high_open high_state =
    let high_place : place_in rung_place end_place high.content ≡ rung_place (climbs_on (f + 1)) =
    open_place high.content (climbs_on (f + 1)) high_state in
    let pair : choices_in (low ∷ high ∷ []) ≡ No ∷ Yes ∷ [] =
    λ i. low_choice i ∷ high_choice i ∷ [] in
    record {
      shared = λ input. sum_by-cons
          (λ (kid : Kid (Content Rung End)). one_if
          ((place_in rung_place end_place kid.content).covers input)) low (high ∷ [])
          ∙ ap (λ n. one_if ((place_in rung_place end_place low.content).covers input) + n)
          (sum_by-cons (λ (kid : Kid (Content Rung End)). one_if
          ((place_in rung_place end_place kid.content).covers input)) high [])
          ∙ (λ i. one_if ((low_place i).covers input) + (one_if ((high_place i).covers input) + 0))
          ∙ either (length input) f;
      choices = All-cons (λ (kid : Kid (Content Rung End)).
          (place_in rung_place end_place kid.content).choices ≡ (replicate f Yes ++ []) ++
          kid.choice ∷ []) low (high ∷ [])
          (ap (λ (p : Place). p.choices) low_place
          ∙ (λ i. sym (append-nil (replicate f Yes)) i ++ sym low_choice i ∷ []))
          (All-cons (λ (kid : Kid (Content Rung End)).
          (place_in rung_place end_place kid.content).choices ≡ (replicate f Yes ++ []) ++
          kid.choice ∷ []) high []
          (ap (λ (p : Place). p.choices) high_place ∙ up_choices f
          ∙ (λ i. sym (append-nil (replicate f Yes)) i ++ sym high_choice i ∷ []))
          (All-nil (λ (kid : Kid (Content Rung End)).
          (place_in rung_place end_place kid.content).choices ≡ (replicate f Yes ++ []) ++
          kid.choice ∷ [])));
      parts = subst (λ (cs : List Choice). All
          (λ (kid : Kid (Content Rung End)). IsPart (rules top nodes) end_place (top + 1 - f) cs kid kid.content)
          (low ∷ high ∷ [])) (sym pair)
          (All-cons (λ (kid : Kid (Content Rung End)). IsPart (rules top nodes) end_place (top + 1 - f)
          (No ∷ Yes ∷ []) kid kid.content) low (high ∷ [])
          (low_part (top + 1 - f) (omega arith))
          (All-cons (λ (kid : Kid (Content Rung End)). IsPart (rules top nodes) end_place (top + 1 - f)
          (No ∷ Yes ∷ []) kid kid.content) high []
          (open_part top nodes f (No ∷ Yes ∷ []) high high.content lt high_open high_state)
          (All-nil (λ (kid : Kid (Content Rung End)). IsPart (rules top nodes) end_place (top + 1 - f)
          (No ∷ Yes ∷ []) kid kid.content))));
      sides = subst (λ (b : Bool). IsTrue
          (are_sides 2 (side_of_kid (cut_in rung_place end_place) low ∷ record {
            choice = high.choice;
            cut = if b then cut_in rung_place end_place high.content else None;
          } ∷ []))) (sym high_open)
          (subst (λ (p : Choice × Choice). IsTrue
          (are_sides 2 (record {
            choice = p.0;
            cut = (side_of_kid (cut_in rung_place end_place) low).cut;
          } ∷ record
          { choice = p.1; cut = None } ∷ []))) (λ i. (sym low_choice i, sym high_choice i))
          (first_holds (are_branch_sides (written_sides low)) (are_values 2 (written_sides low))
          low_cut));
      few = omega arith;
      apart = two_apart low high
          (uncut (place_in rung_place end_place low.content)
          (place_in rung_place end_place high.content)
          (subst (λ (p : Place × Place). ArePlacesApart decides p.0 (record p.1 { cut = None }))
          (λ i. (sym low_place i, sym high_place i)) (apart_up f)))
          (uncut (place_in rung_place end_place high.content)
          (place_in rung_place end_place low.content)
          (subst (λ (p : Place × Place). ArePlacesApart decides (record p.0 { cut = None }) p.1)
          (λ i. (sym high_place i, sym low_place i)) (apart_down f)));
    }

pub returns : goal.returns
returns g c = let r = c.args.state.now in let top = c.args.self.now.top in
    let nodes = c.args.self.now.nodes in (
      subst (λ (kids : List (Kid (Content Rung End))). IsSplit (rules top nodes) rung_place end_place r
          kids)
          (sym (c.push_reserved-2.ensures.items
          ∙ ap (λ kids. kids ++ c.in_ok-second.second ∷ [])
          (c.push_reserved.ensures.items
          ∙ ap (λ kids. kids ++ c.in_ok-first.first ∷ []) c.in_ok-kids.ensures.items)))
          (subst (λ (b : Bool). IsSplit (rules top nodes) rung_place end_place
          (record { from = r.from; just = b }) (c.in_ok-first.first ∷ c.in_ok-second.second ∷ []))
          (sym c.if-rung.false)
          (two_sides top nodes r.from c.in_ok-first.first c.in_ok-second.second
          (omega (arith, c.requires.well, c.if-rung-self.false))
          c.in_ok-first.ensures.choice c.in_ok-first.ensures.place c.in_ok-first.ensures.cut
          (λ limit some. c.in_ok-first.ensures.part top nodes limit c.requires.well some)
          c.in_ok-second.ensures.choice c.in_ok-second.ensures.open c.in_ok-second.ensures.state)),
      record { same_choices = refl; same_cover = λ input. refl; well = c.requires.well },
    )

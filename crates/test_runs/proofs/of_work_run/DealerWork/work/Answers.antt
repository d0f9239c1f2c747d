use Rattle.std.proofs.Common.{◌≡◌, ◌≢◌, ℕ, zero, suc, ◌+◌, ◌<◌, ◌==◌, Bool, true, false, IsTrue, Some, None, List, [], ◌∷◌, ◌++◌, length, sym, refl, ap, ◌∙◌, subst, arith}
use Rattle.std.specs.Prelude.{if◌then◌else◌, min}
use Rattle.std.proofs.lemmas.Bool.Decides.{nat_tests}
use Rattle.std.proofs.lemmas.List.Elements.{All-cons, All-nil}
use Rattle.std.proofs.lemmas.List.Sums.{sum_by-cons}
use Rattle.fork_spec.specs.Decisions.{Decision, Number, Side}
use Rattle.tree_core.specs.Covers.{one_if}
use Rattle.tree_core.specs.declared.choice.Choice.{Choice}
use Rattle.tree_core.specs.declared.choice.Choice.TheVariants.{Value}
use Rattle.tree_core.specs.declared.order.Order.TheVariants.{Deepest}
use Rattle.tree_core.specs.declared.event.Kid.{Kid}
use Rattle.fork_spec.specs.Partings.{ArePlacesApart, Place}
use Rattle.fork_tree.specs.NodesApart.{AreKidsApart}
use Rattle.fork_spec.specs.Walks.{are_sides}
use Rattle.fork_tree.proofs.Walked.{none_is_some, same_held}
use Rattle.fork_spec.proofs.Walking.{part_into_values}
use Rattle.fork_tree.specs.Contents.{choices_in, cut_in, place_in}
use Rattle.fork_tree.specs.Nodes.{StateIs}
use Rattle.fork_tree.specs.Works.{IsPart, IsSplit, Rules}
use Rattle.fork_tree.specs.declared.content.Content.{Content}
use Rattle.fork_tree.specs.declared.content.Content.TheVariants.{Open, Shut}
use Rattle.test_runs.specs.declared.of_work_run.Draw.{Draw}
use Rattle.test_runs.proofs.of_work_run.DealerWork.work.Goals as goal

abbrev draw_place : Draw → Place
draw_place d = record {
  choices = if d.drawn then Value d.card ∷ [] else [];
  covers = λ input. if d.drawn then min 2 (length input) == d.card else true;
  cut = None;
}

abbrev decides : List ℕ → List Decision
decides input = Number (min 2 (length input)) ∷ []

abbrev rules : Rules Draw Draw
rules = record {
  left = λ d. if d.drawn then 0 else 1;
  targets = 3;
  nodes = 100;
  order = Deepest;
  decides = decides;
  IsWell = λ d. Unit {0};
  IsRight = λ sides nodes d. Unit {0};
}

abbrev side : ℕ → Draw
side card = record { drawn = true; card = card }

same : (n k : ℕ) → (n == k) ≡ true → n ≡ k
same n k is = grind (arith, nat_tests)

one_card : (n : ℕ) →
    one_if (min 2 n == 0) + (one_if (min 2 n == 1) + (one_if (min 2 n == 2) + 0)) ≡ 1
one_card n = grind (arith, nat_tests)

abbrev value_in : Choice → ℕ
value_in (Value v) = v
value_in _ = 0

abbrev number_in : Decision → ℕ
number_in (Number n) = n
number_in (Side b) = 0

-- places of two cards
apart : (k j : ℕ) → k ≢ j → ArePlacesApart decides (draw_place (side k)) (draw_place (side j))
apart k j ne = record {
  c = Value k;
  d = Value j;
  first = record {
    front = [];
    one_back = [];
    other_back = [];
    one = refl;
    other = refl;
    differ = λ is. ne (ap value_in is);
  };
  part = λ a b at bt. record {
    front = [];
    one_decision = Number k;
    other_decision = Number j;
    one_back = [];
    other_back = [];
    one = ap (λ n. Number n ∷ []) (same (min 2 (length a)) k at);
    other = ap (λ n. Number n ∷ []) (same (min 2 (length b)) j bt);
    differ = λ is. ne (ap number_in is);
    one_side = refl;
    other_side = refl;
  };
}

abbrev place_at : Kid (Content Draw Draw) → Place
place_at kid = place_in draw_place draw_place kid.content

two_apart : (k j : ℕ) (low high a b : Kid (Content Draw Draw)) → k ≢ j →
    place_at low ≡ draw_place (side k) → place_at high ≡ draw_place (side j) →
    Some low ≡ Some a → Some high ≡ Some b → ArePlacesApart decides (place_at a) (place_at b)
two_apart k j low high a b ne low_place high_place at bt =
    subst (λ (p : Place × Place). ArePlacesApart decides p.0 p.1)
    (λ i. (
      (sym low_place ∙ ap place_at (same_held low a at)) i,
      (sym high_place ∙ ap place_at (same_held high b bt)) i,
    )) (apart k j ne)

module _ (none one more : Kid (Content Draw Draw))
    (none_place : place_at none ≡ draw_place (side 0))
    (one_place : place_at one ≡ draw_place (side 1))
    (more_place : place_at more ≡ draw_place (side 2)) where
  kids_apart : AreKidsApart (place_in draw_place draw_place) decides (none ∷ one ∷ more ∷ [])
  kids_apart zero zero a b ne at bt = absurd (ne refl)
  kids_apart zero (suc zero) a b ne at bt =
      two_apart 0 1 none one a b (λ is. omega (arith, is)) none_place one_place at bt
  kids_apart zero (suc (suc zero)) a b ne at bt =
      two_apart 0 2 none more a b (λ is. omega (arith, is)) none_place more_place at bt
  kids_apart zero (suc (suc (suc j))) a b ne at bt = absurd (none_is_some b bt)
  kids_apart (suc zero) zero a b ne at bt =
      two_apart 1 0 one none a b (λ is. omega (arith, is)) one_place none_place at bt
  kids_apart (suc zero) (suc zero) a b ne at bt = absurd (ne refl)
  kids_apart (suc zero) (suc (suc zero)) a b ne at bt =
      two_apart 1 2 one more a b (λ is. omega (arith, is)) one_place more_place at bt
  kids_apart (suc zero) (suc (suc (suc j))) a b ne at bt = absurd (none_is_some b bt)
  kids_apart (suc (suc zero)) zero a b ne at bt =
      two_apart 2 0 more none a b (λ is. omega (arith, is)) more_place none_place at bt
  kids_apart (suc (suc zero)) (suc zero) a b ne at bt =
      two_apart 2 1 more one a b (λ is. omega (arith, is)) more_place one_place at bt
  kids_apart (suc (suc zero)) (suc (suc zero)) a b ne at bt = absurd (ne refl)
  kids_apart (suc (suc zero)) (suc (suc (suc j))) a b ne at bt = absurd (none_is_some b bt)
  kids_apart (suc (suc (suc i))) j a b ne at bt = absurd (none_is_some a at)

-- a side, by what its content is
open_place : (c : Content Draw Draw) (d : Draw) → StateIs (Some c) d →
    place_in draw_place draw_place c ≡ draw_place d
open_place (Open a) d is = ap draw_place is
open_place (Shut l) d is = absurd is

open_part : (card : ℕ) (choices : List Choice) (kid : Kid (Content Draw Draw))
    (c : Content Draw Draw) → kid.is_leaf ≡ false → StateIs (Some c) (side card) →
    IsPart rules draw_place 1 choices kid c
open_part card choices kid (Open a) open' is =
    (open', tt, subst (λ (d : Draw). (if d.drawn then 0 else 1) < 1) (sym is) (omega arith))
open_part card choices kid (Shut l) open' is = absurd is

-- what is known of the side of a card
record IsSideOf (card : ℕ) (kid : Kid (Content Draw Draw)) : Type 0 where
  pub choice : kid.choice ≡ Value card
  pub open' : kid.is_leaf ≡ false
  pub state : StateIs (Some kid.content) (side card)

three_sides : (none one more : Kid (Content Draw Draw)) → IsSideOf 0 none → IsSideOf 1 one →
    IsSideOf 2 more → (card : ℕ) →
    IsSplit rules draw_place draw_place (record { drawn = false; card = card })
    (none ∷ one ∷ more ∷ [])
three_sides none one more n o m card =
    let none_place = open_place none.content (side 0) n.state in
    let one_place = open_place one.content (side 1) o.state in
    let more_place = open_place more.content (side 2) m.state in
    let count : List ℕ → Kid (Content Draw Draw) → ℕ = λ input kid.
    one_if ((place_in draw_place draw_place kid.content).covers input) in
    let Leads : Kid (Content Draw Draw) → Type 0 = λ kid.
    (place_in draw_place draw_place kid.content).choices ≡ [] ++ kid.choice ∷ [] in
    let Part : List Choice → Kid (Content Draw Draw) → Type 0 = λ choices kid.
    IsPart rules draw_place 1 choices kid kid.content in
    let choices = choices_in (none ∷ one ∷ more ∷ []) in
    record {
      shared = λ input. sum_by-cons (count input) none (one ∷ more ∷ [])
          ∙ ap (λ n. count input none + n)
          (sum_by-cons (count input) one (more ∷ [])
          ∙ ap (λ n. count input one + n) (sum_by-cons (count input) more []))
          ∙ (λ i. one_if ((none_place i).covers input)
          + (one_if ((one_place i).covers input) + (one_if ((more_place i).covers input) + 0)))
          ∙ one_card (length input);
      choices = All-cons Leads none (one ∷ more ∷ [])
          (ap (λ (p : Place). p.choices) none_place ∙ ap (λ c. c ∷ []) (sym n.choice))
          (All-cons Leads one (more ∷ [])
          (ap (λ (p : Place). p.choices) one_place ∙ ap (λ c. c ∷ []) (sym o.choice))
          (All-cons Leads more []
          (ap (λ (p : Place). p.choices) more_place ∙ ap (λ c. c ∷ []) (sym m.choice))
          (All-nil Leads)));
      parts = All-cons (Part choices) none (one ∷ more ∷ [])
          (open_part 0 choices none none.content n.open' n.state)
          (All-cons (Part choices) one (more ∷ [])
          (open_part 1 choices one one.content o.open' o.state)
          (All-cons (Part choices) more []
          (open_part 2 choices more more.content m.open' m.state) (All-nil (Part choices))));
      sides = subst (λ (p : Choice × Bool × Choice × Bool × Choice × Bool). IsTrue
          (are_sides 3 (record {
            choice = p.0;
            cut = if p.1 then cut_in draw_place draw_place none.content else None;
          } ∷ record {
            choice = p.2;
            cut = if p.3 then cut_in draw_place draw_place one.content else None;
          } ∷ record {
            choice = p.4;
            cut = if p.5 then cut_in draw_place draw_place more.content else None;
          } ∷ [])))
          (λ i. (sym n.choice i, sym n.open' i, sym o.choice i, sym o.open' i, sym m.choice i, sym m.open' i))
          (part_into_values 3 (0 ∷ 1 ∷ 2 ∷ []) refl refl (omega arith) (omega arith));
      few = omega arith;
      apart = kids_apart none one more none_place one_place more_place;
    }

pub returns : goal.returns
returns g c = let d = c.args.state.now in (
  subst (λ (kids : List (Kid (Content Draw Draw))). IsSplit rules draw_place draw_place d kids)
      (sym (c.push_reserved-3.ensures.items
      ∙ ap (λ kids. kids ++ c.in_ok-more.more ∷ [])
      (c.push_reserved-2.ensures.items
      ∙ ap (λ kids. kids ++ c.in_ok-one.one ∷ [])
      (c.push_reserved.ensures.items
      ∙ ap (λ kids. kids ++ c.in_ok-none.none ∷ []) c.in_ok-kids.ensures.items))))
      (subst (λ (b : Bool). IsSplit rules draw_place draw_place
      (record { drawn = b; card = d.card })
      (c.in_ok-none.none ∷ c.in_ok-one.one ∷ c.in_ok-more.more ∷ []))
      (sym c.if-draw.false)
      (three_sides c.in_ok-none.none c.in_ok-one.one c.in_ok-more.more
      (record {
        choice = c.in_ok-none.ensures.choice;
        open' = c.in_ok-none.ensures.open;
        state = c.in_ok-none.ensures.state;
      })
      (record {
        choice = c.in_ok-one.ensures.choice;
        open' = c.in_ok-one.ensures.open;
        state = c.in_ok-one.ensures.state;
      })
      (record {
        choice = c.in_ok-more.ensures.choice;
        open' = c.in_ok-more.ensures.open;
        state = c.in_ok-more.ensures.state;
      }) d.card)),
  record { same_choices = refl; same_cover = λ input. refl; well = tt },
)

-- What comes of a state that is worked may come in the place of its node.
use Rattle.std.proofs.Common.{◌≡◌, ℕ, zero, suc, ◌+◌, ◌<◌, ◌≤◌, Bool, true, false, cond, IsTrue, Option, Some, None, List, [], ◌∷◌, ◌++◌, length, get_or, sym, refl, ap, ◌∙◌, subst, arith}
use Rattle.std.specs.List.{All, count_by}
use Rattle.std.specs.Arc.{arc_value}
use Rattle.std.specs.Global.{Vec}
use Rattle.std.proofs.lemmas.List.Sums.{sum_by-cons}
use Rattle.tree_core.specs.declared.cause.Cause.{Cause}
use Rattle.tree_core.specs.declared.choice.Choice.{Choice}
use Rattle.tree_core.specs.declared.event.Kid.{Kid}
use Rattle.tree_core.specs.declared.node.Status.TheVariants.{Free, Held, Leaf}
use Rattle.tree_core.specs.Covers.{one_if}
use Rattle.tree_core.specs.Stories.{Story, content, status}
use Rattle.fork_spec.specs.Partings.{Place}
use Rattle.fork_tree.specs.Written.{IsCutOr}
use Rattle.fork_tree.specs.Calls.{IsEndFit, IsSplitFit}
use Rattle.fork_tree.specs.Contents.{choices_in, cut_in, place_in}
use Rattle.fork_tree.specs.Nodes.{HoldsFor, StateIs}
use Rattle.fork_tree.specs.Works.{EndsAs, IsPart, IsRunAt, IsSplit, IsWorked, Rules, nodes_at}
use Rattle.fork_tree.specs.declared.content.Content.{Content}
use Rattle.fork_tree.specs.declared.content.Content.TheVariants.{Open, Shut}
use Rattle.fork_tree.specs.declared.work.Parts.{Parts}

-- an item that passes is counted
counted_at : {X : Type 0} (f : X → Bool) (xs : List X) (k : ℕ) (d : X) → k < length xs →
    f (get_or xs k d) ≡ true → 1 ≤ count_by f xs
counted_at f [] k d lt is = absurd (omega arith)
counted_at f (x ∷ xs) zero d lt is =
    first (one_if (f x)) (count_by f xs) (count_by f (x ∷ xs))
    (sum_by-cons (λ y. one_if (f y)) x xs) (ap one_if is)
  where
    first : (a b c : ℕ) → c ≡ a + b → a ≡ 1 → 1 ≤ c
    first a b c sum one = omega arith
counted_at f (x ∷ xs) (suc k) d lt is =
    later (one_if (f x)) (count_by f xs) (count_by f (x ∷ xs))
    (sum_by-cons (λ y. one_if (f y)) x xs) (counted_at f xs k d (omega arith) is)
  where
    later : (a b c : ℕ) → c ≡ a + b → 1 ≤ b → 1 ≤ c
    later a b c sum one = omega arith

on : (b : Bool) → 1 ≤ one_if b → b ≡ true
on true le = refl
on false le = let never : 1 ≤ 0 = le in absurd (omega arith)

-- what is worked is what the worker answered
pub worked_by : {W S L : Type 0} (rules : W → Rules S L) (state_place : S → Place)
    (leaf_place : L → Place) (x : S) (w v : W) (p q : Parts S L) →
    w ≡ v → p ≡ q → IsWorked (rules w) state_place leaf_place x p →
    IsWorked (rules v) state_place leaf_place x q
worked_by {W} {S} {L} rules state_place leaf_place x w v p q same is worked =
    subst (λ (y : W × Parts S L). IsWorked (rules y.0) state_place leaf_place x y.1)
    (λ i. (same i, is i)) worked

module _ {S L : Type 0} (rules : Rules S L) (state_place : S → Place) (leaf_place : L → Place) where
  -- what the node holds has the place of the state
  state_at : (c : Option (Content S L)) (x : S) → StateIs c x →
      (old : Content S L) × (c ≡ Some old) × (place_in state_place leaf_place old ≡ state_place x)
  state_at (Some (Open a)) x is = (Open a, refl, ap state_place is)
  state_at (Some (Shut l)) x is = absurd is
  state_at None x is = absurd is

  pub end_fits : (cut : Option Cause) (nodes : Option ℕ) (s : Story (Content S L)) (by node : ℕ) (x : S) (leaf : L) →
      node < length s.nodes → status s node ≡ Held by → StateIs (content s node) x →
      EndsAs rules state_place leaf_place cut nodes x leaf → nodes ≡ nodes_at cut (length s.nodes) →
      IsEndFit rules state_place leaf_place cut s by node leaf
  end_fits cut nodes s by node x leaf there held state ends counted =
      let old = state_at (content s node) x state in record {
        there = there;
        held = held;
        old = old.0;
        is_old = old.1;
        same_choices = ends.same_choices ∙ sym (ap (λ (p : Place). p.choices) old.2);
        same_cover = λ input. ends.same_cover input ∙ sym (ap (λ (p : Place). p.covers input) old.2);
        right = subst (λ (o : Option ℕ). rules.IsRight [] o leaf) counted ends.right;
        cause = ends.cause;
      }

  -- the leaf of a run at the place of a state is one of the state
  pub ends_at : (cut : Option Cause) (nodes : Option ℕ) (x run : S) (leaf : L) →
      IsRunAt rules state_place x run →
      EndsAs rules state_place leaf_place cut nodes run leaf →
      EndsAs rules state_place leaf_place cut nodes x leaf
  ends_at cut nodes x run leaf at ends = record {
    same_choices = ends.same_choices ∙ at.same_choices;
    same_cover = λ input. ends.same_cover input ∙ at.same_cover input;
    right = ends.right;
    cause = ends.cause;
  }

  part_marked : (limit : ℕ) (choices : List Choice) (kid : Kid (Content S L)) (c : Content S L) →
      IsPart rules leaf_place limit choices kid c → IsCutOr kid.is_leaf (cut_in state_place leaf_place c)
  part_marked limit choices kid (Open a) part = subst (λ (b : Bool). IsCutOr b (state_place (arc_value a)).cut) (sym part.0) tt
  part_marked limit choices kid (Shut l) part =
      subst (λ (b : Bool). IsCutOr b (leaf_place l).cut) (sym part.0) part.2

  part_holds : (limit : ℕ) (choices : List Choice) (kid : Kid (Content S L)) (c : Content S L) →
      IsPart rules leaf_place limit choices kid c →
      HoldsFor rules.IsWell (rules.IsRight choices None) (cond kid.is_leaf Leaf Free) (Some c)
  part_holds limit choices kid (Open a) part =
      subst (λ (b : Bool). HoldsFor rules.IsWell (rules.IsRight choices None) (cond b Leaf Free)
      (Some (Open a))) (sym part.0) part.1
  part_holds limit choices kid (Shut l) part =
      subst (λ (b : Bool). HoldsFor rules.IsWell (rules.IsRight choices None) (cond b Leaf Free)
      (Some (Shut l))) (sym part.0) part.1

  pub split_fits : (s : Story (Content S L)) (by node : ℕ) (x : S) (kids : Vec (Kid (Content S L)))
      →
      node < length s.nodes → status s node ≡ Held by → StateIs (content s node) x →
      IsSplit rules state_place leaf_place x kids.items → length s.nodes < rules.nodes →
      IsSplitFit rules state_place leaf_place s by node kids
  split_fits s by node x kids there held state split not_full =
      let old = state_at (content s node) x state in
      let same_choices : (place_in state_place leaf_place old.0).choices ≡ (state_place x).choices =
      ap (λ (p : Place). p.choices) old.2 in
      let leads : All (λ (kid : Kid (Content S L)).
      (place_in state_place leaf_place kid.content).choices ≡
      (place_in state_place leaf_place old.0).choices ++ kid.choice ∷ []) kids.items =
      λ k d lt. split.choices k d lt
      ∙ ap (λ (cs : List Choice). cs ++ (get_or kids.items k d).choice ∷ []) (sym same_choices)
      in
      record {
        there = there;
        held = held;
        old = old.0;
        is_old = old.1;
        shared = λ input. split.shared input
            ∙ ap one_if (sym (ap (λ (p : Place). p.covers input) old.2));
        in_form = (
          split.sides,
          λ k d lt. let kid : Kid (Content S L) = get_or kids.items k d in
              record {
                leads = leads k d lt;
                marked = part_marked (rules.left x) (choices_in kids.items) kid kid.content
                    (split.parts k d lt);
              },
        );
        apart = (
          λ k d lt. let kid : Kid (Content S L) = get_or kids.items k d in record {
            more = kid.choice ∷ [];
            choices = leads k d lt;
            within = λ input covered. within input k d lt covered;
          },
          split.apart,
        );
        parts = λ k d lt. let kid : Kid (Content S L) = get_or kids.items k d in
            part_holds (rules.left x) (choices_in kids.items) kid kid.content (split.parts k d lt);
        few = split.few;
        not_full = not_full;
      }
    where
      within : (input : List ℕ) (k : ℕ) (d : Kid (Content S L)) → k < length kids.items →
          IsTrue ((place_in state_place leaf_place (get_or kids.items k d).content).covers input) →
          IsTrue ((place_in state_place leaf_place (state_at (content s node) x state).0).covers
          input)
      within input k d lt covered =
          ap (λ (p : Place). p.covers input) (state_at (content s node) x state).2
          ∙ on ((state_place x).covers input) (subst (λ n. 1 ≤ n) (split.shared input)
          (counted_at (λ (kid : Kid (Content S L)).
          (place_in state_place leaf_place kid.content).covers input) kids.items k d lt
          covered))

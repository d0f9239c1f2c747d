-- Bits taken through complements and choices, as the code goes down.
use Rattle.std.proofs.Common.{◌≡◌, ◌∙◌, ℕ, zero, suc, ◌+◌, ◌-◌, ◌<◌, ◌≤◌, Bool, true, false, length, Some, None, add-one, refl, ap, sym, subst, arith, inl, inr}
use Rattle.std.specs.Prelude.{Option, Result, Ok, Err, IfNone, IfSome, ◌||◌, is_some}
use Rattle.std.specs.Result.{IfOk, OnOk}
use Rattle.std.specs.List.{slice_get}
use Rattle.std.proofs.lemmas.Bool.Decides.{eqb_tells}
use Rattle.bv_dag.specs.Graphs.{Graph, IsDag, width_of}
use Rattle.bv_dag.specs.Nodes.{Fits, widths_of}
use Rattle.bv_dag.specs.declared.nodes.Node.{Node}
use Rattle.bv_dag.specs.declared.nodes.Node.TheVariants.{Num, Input, Not, Neg, Binary, Compare, Ite, Extract, Extend, Concat}
use Rattle.bv_dag.proofs.TermLaws.{there}
use Rattle.term_trees.specs.Growth.{Continues}
use Rattle.term_trees.specs.Trees.{Tree, Constant, Choice, Part, Widened, tree_of, node_tree, tree_width}
use Rattle.term_trees.proofs.Terms.{is_term}
use Rattle.term_trees.proofs.TreeLaws.{tree_by_cases, tree-grown, width-grown, width-tree_of}
use Rattle.term_simplify.specs.Lifting.{AreChosen, lifted_at, lifting_tree, node_span, part_tree}
use Rattle.term_simplify.specs.Plain.{complement_of, extension_by, further, inner_part, lifted, plain_choice, tree_number}
use Rattle.term_simplify.specs.Plans.{Follows, IsSpan, recipe_tree, under}
use Rattle.term_simplify.specs.declared.parts.Span.{Span}
use Rattle.term_simplify.specs.declared.lifting.Lifting.{Lifting}
use Rattle.term_simplify.specs.declared.recipe.Above.{Above}
use Rattle.term_simplify.specs.declared.recipe.Recipe.{Recipe}
use Rattle.term_simplify.proofs.LiftRules.{width-lifted}
use Rattle.term_simplify.proofs.Reading.{has_term, operand, term_at, width_at}
use Rattle.term_simplify.proofs.Stepping.{there_still}
use Rattle.term_simplify.proofs.Words.{tests_unequal}

-- ---- nothing is done to what is no bits of a term
lifted_extension : (levels by : ℕ) (signed : Bool) (t : Tree) → lifted levels (extension_by by signed t) ≡ extension_by by signed t
unfolding lifted extension_by
lifted_extension zero by signed t = refl
lifted_extension (suc k) by signed (Constant w v) = refl
lifted_extension (suc k) by false (Widened inner false t) = refl
lifted_extension (suc k) by true (Widened inner false t) = refl
lifted_extension (suc k) by true (Widened inner true t) = refl
lifted_extension (suc k) by false (Widened inner true t) = refl
lifted_extension (suc k) by signed t = refl

lifted_further : (levels by : ℕ) (signed : Bool) (t : Tree) → 0 < by → lifted levels (further by signed t) ≡ further by signed t
lifted_further levels by signed t some =
    rw (tests_unequal by 0 (λ e. omega (arith, e, some))) (lifted_extension levels by signed t)

pub lifted_signs : (levels : ℕ) (above : Above) (t : Tree) → 0 < above.signs → lifted levels (under above t) ≡ under above t
lifted_signs levels above t some =
    elim (eqb_tells above.zeros 0) [
      | inl e ↦ rw e.0 (lifted_further levels above.signs true t some)
      | inr e ↦ rw e.0 (lifted_extension levels above.zeros false (further above.signs true t))
    ]

pub lifted_zeros : (levels : ℕ) (above : Above) (t : Tree) → 0 < above.zeros → lifted levels (under above t) ≡ under above t
lifted_zeros levels above t some = lifted_further levels above.zeros false (further above.signs true t) some

pub no_further : (above : Above) (t : Tree) → above.signs ≤ 0 → above.zeros ≤ 0 → under above t ≡ t
no_further above t signs zeros =
    let e : above.signs ≡ 0 = omega (arith, signs) in
    let f : above.zeros ≡ 0 = omega (arith, zeros) in
    rw (e, f) refl

lifted_node : (f : ℕ → Tree) (n : Node) (levels : ℕ) → None ≡ node_span n → lifted levels (node_tree f n) ≡ node_tree f n
unfolding lifted
lifted_node f n zero e = refl
lifted_node f (Extract high low a) (suc k) e = cc
lifted_node f (Num w v) (suc k) e = refl
lifted_node f (Input i) (suc k) e = refl
lifted_node f (Not a) (suc k) e = refl
lifted_node f (Neg a) (suc k) e = refl
lifted_node f (Binary op a b) (suc k) e = refl
lifted_node f (Compare op a b) (suc k) e = refl
lifted_node f (Ite c a b) (suc k) e = refl
lifted_node f (Extend by signed a) (suc k) e = refl
lifted_node f (Concat a b) (suc k) e = refl

pub span_none : (f : ℕ → Tree) (n : Node) (r : Option Span) → r ≡ node_span n → IfNone r ((levels : ℕ) → lifted levels (node_tree f n) ≡ node_tree f n)
span_none f n (Some span) e = tt
span_none f n None e = λ levels. lifted_node f n levels e

-- ---- the bits that a node is
pub span_tree : (g : Graph) (n : Node) (r : Option Span) → r ≡ node_span n → IfSome r (λ span. node_tree (tree_of g) n ≡ part_tree g span)
span_tree g n None e = tt
span_tree g (Extract high low a) (Some span) e = let same : span ≡ record { high = high; low = low; operand = a } = cc in ap (part_tree g) (sym same)
span_tree g (Num w v) (Some span) e = cc
span_tree g (Input i) (Some span) e = cc
span_tree g (Not a) (Some span) e = cc
span_tree g (Neg a) (Some span) e = cc
span_tree g (Binary op a b) (Some span) e = cc
span_tree g (Compare op a b) (Some span) e = cc
span_tree g (Ite c a b) (Some span) e = cc
span_tree g (Extend by signed a) (Some span) e = cc
span_tree g (Concat a b) (Some span) e = cc

pub span_fits : (g : Graph) (n : Node) (r : Option Span) → r ≡ node_span n → Fits g.inputs (widths_of g.nodes) n → IfSome r (IsSpan g)
span_fits g n None e fits = tt
span_fits g (Extract high low a) (Some span) e fits =
    let same : span ≡ record { high = high; low = low; operand = a } = cc in
    rw same (record { there = has_term g a (omega (arith, fits.1)); order = fits.0; within = fits.1 })
span_fits g (Num w v) (Some span) e fits = cc
span_fits g (Input i) (Some span) e fits = cc
span_fits g (Not a) (Some span) e fits = cc
span_fits g (Neg a) (Some span) e fits = cc
span_fits g (Binary op a b) (Some span) e fits = cc
span_fits g (Compare op a b) (Some span) e fits = cc
span_fits g (Ite c a b) (Some span) e fits = cc
span_fits g (Extend by signed a) (Some span) e fits = cc
span_fits g (Concat a b) (Some span) e fits = cc

pub span_stands : (g : Graph) (id : ℕ) (dag : IsDag g) (n : Node) (r : Option Span) → slice_get g.nodes id ≡ Some n → r ≡ node_span n → IfSome r (IsSpan g)
span_stands g id dag n None is e = tt
span_stands g id dag (Extract high low a) (Some span) is e =
    let same : span ≡ record { high = high; low = low; operand = a } = cc in
    let term = term_at g id (Extract high low a) dag is in
    rw same (record {
      there = (operand g id a _ dag is (omega (arith, (dag.all_fit id (Extract high low a) is).1))).there;
      order = term.1;
      within = omega (arith, term.2, width-tree_of g a);
    })
span_stands g id dag (Num w v) (Some span) is e = cc
span_stands g id dag (Input i) (Some span) is e = cc
span_stands g id dag (Not a) (Some span) is e = cc
span_stands g id dag (Neg a) (Some span) is e = cc
span_stands g id dag (Binary op a b) (Some span) is e = cc
span_stands g id dag (Compare op a b) (Some span) is e = cc
span_stands g id dag (Ite c a b) (Some span) is e = cc
span_stands g id dag (Extend by signed a) (Some span) is e = cc
span_stands g id dag (Concat a b) (Some span) is e = cc

-- the same, of the term that stands there
pub tree_stands : (g : Graph) (id : ℕ) (dag : IsDag g) (n : Node) (r : Option Span) → slice_get g.nodes id ≡ Some n → r ≡ node_span n →
    IfSome r (λ span. tree_of g id ≡ part_tree g span)
tree_stands g id dag n r is e = rw (tree_by_cases g id n dag is) (span_tree g n r e)

pub none_stands : (g : Graph) (id : ℕ) (dag : IsDag g) (n : Node) (r : Option Span) → slice_get g.nodes id ≡ Some n → r ≡ node_span n →
    IfNone r ((levels : ℕ) → lifted levels (tree_of g id) ≡ tree_of g id)
none_stands g id dag n r is e = rw (tree_by_cases g id n dag is) (span_none (tree_of g) n r e)

-- ---- what bits are made of
module _ (g : Graph) (high low id : ℕ) (dag : IsDag g) (span : IsSpan g (record { high = high; low = low; operand = id })) where
  module _ (a : ℕ) (is : slice_get g.nodes id ≡ Some (Not a)) where
    pub in_complement : IsSpan g (record { high = high; low = low; operand = a })
    in_complement = record {
      there = (operand g id a _ dag is (dag.all_fit id (Not a) is)).there;
      order = span.order;
      within = omega (arith, span.within, width_at g id (Not a) dag is, width-tree_of g a);
    }

    pub lifts_complement : (levels : ℕ) → lifted (levels + 1) (Part high low (tree_of g id)) ≡ complement_of (lifted levels (inner_part high low (tree_of g a)))
    unfolding lifted
    lifts_complement levels = rw (tree_by_cases g id (Not a) dag is, add-one levels) refl

  module _ (c a b : ℕ) (is : slice_get g.nodes id ≡ Some (Ite c a b)) where
    pub first_there : a < length g.nodes
    first_there = (operand g id a _ dag is (dag.all_fit id (Ite c a b) is).1).there

    pub second_there : b < length g.nodes
    second_there =
        let fits = dag.all_fit id (Ite c a b) is in
        (operand g id b _ dag is (omega (arith, fits.1, fits.2))).there

    pub in_choice : AreChosen g c (record { high = high; low = low; operand = a }) (record { high = high; low = low; operand = b })
    in_choice =
        let term = term_at g id (Ite c a b) dag is in
        let wide = width_at g id (Ite c a b) dag is in
        record {
          condition = sym (width-tree_of g c) ∙ term.3;
          first = record { there = first_there; order = span.order; within = omega (arith, span.within, wide, width-tree_of g a) };
          second = record { there = second_there; order = span.order; within = omega (arith, span.within, wide, term.4, width-tree_of g b) };
          high = refl;
          low = refl;
        }

    pub lifts_choice : (levels : ℕ) → (is_some (tree_number (tree_of g a)) || is_some (tree_number (tree_of g b))) ≡ true →
        lifted (levels + 1) (Part high low (tree_of g id)) ≡
        plain_choice (tree_of g c) (lifted levels (inner_part high low (tree_of g a))) (lifted levels (inner_part high low (tree_of g b)))
    unfolding lifted
    lifts_choice levels some = rw (tree_by_cases g id (Ite c a b) dag is, add-one levels) (rw some refl)

    choice_stays : (levels : ℕ) (s t u : Tree) → (is_some (tree_number s) || is_some (tree_number t)) ≡ false →
        lifted levels (Part high low (Choice u s t)) ≡ Part high low (Choice u s t)
    unfolding lifted
    choice_stays zero s t u none = refl
    choice_stays (suc k) s t u none = rw none refl

    pub lifts_no_choice : (levels : ℕ) → (is_some (tree_number (tree_of g a)) || is_some (tree_number (tree_of g b))) ≡ false →
        lifted levels (Part high low (tree_of g id)) ≡ Part high low (tree_of g id)
    lifts_no_choice levels none = rw (tree_by_cases g id (Ite c a b) dag is) (choice_stays levels (tree_of g a) (tree_of g b) (tree_of g c) none)

  others_stay : (f : ℕ → Tree) (n : Node) (levels : ℕ) → ((a : ℕ) → n ≡ Not a → ⊥) → ((c a b : ℕ) → n ≡ Ite c a b → ⊥) →
      lifted levels (Part high low (node_tree f n)) ≡ Part high low (node_tree f n)
  unfolding lifted
  others_stay f n zero x y = refl
  others_stay f (Not a) (suc k) x y = absurd (x a refl)
  others_stay f (Ite c a b) (suc k) x y = absurd (y c a b refl)
  others_stay f (Num w v) (suc k) x y = refl
  others_stay f (Input i) (suc k) x y = refl
  others_stay f (Neg a) (suc k) x y = refl
  others_stay f (Binary op a b) (suc k) x y = refl
  others_stay f (Compare op a b) (suc k) x y = refl
  others_stay f (Extract h l a) (suc k) x y = refl
  others_stay f (Extend by signed a) (suc k) x y = refl
  others_stay f (Concat a b) (suc k) x y = refl

  pub lifts_none : (n : Node) → slice_get g.nodes id ≡ Some n → ((a : ℕ) → n ≡ Not a → ⊥) → ((c a b : ℕ) → n ≡ Ite c a b → ⊥) → (levels : ℕ) →
      lifted levels (Part high low (tree_of g id)) ≡ Part high low (tree_of g id)
  lifts_none n is x y levels = rw (tree_by_cases g id n dag is) (others_stay (tree_of g) n levels x y)

-- at no level
pub lifted_none : (levels : ℕ) (t : Tree) → levels ≡ 0 → lifted levels t ≡ t
unfolding lifted
lifted_none zero t e = refl
lifted_none (suc k) t e = absurd (omega (arith, e))

-- ---- a term on the way
pub IsSpan-grown : (g h : Graph) (span : Span) → Continues g h → IsSpan g span → IsSpan h span
IsSpan-grown g h span grown s = record {
  there = there_still g h span.operand grown s.there;
  order = s.order;
  within = rw (width-grown g h span.operand grown s.there) s.within;
}

pub lifted_at-grown : (g h : Graph) (levels : ℕ) (span : Span) → Continues g h → IsSpan g span → lifted_at h levels span ≡ lifted_at g levels span
lifted_at-grown g h levels span grown s = ap (λ t. lifted levels (inner_part span.high span.low t)) (tree-grown g h span.operand grown s.there)

pub lifted_width : (g h : Graph) (dag : IsDag g) (levels : ℕ) (span : Span) (id : ℕ) → IsSpan g span → tree_of h id ≡ lifted_at g levels span →
    width_of h id ≡ span.high - span.low + 1
lifted_width g h dag levels span id s is =
    sym (width-tree_of h id) ∙ ap tree_width is
    ∙ width-lifted g.inputs levels (tree_of g span.operand) span.high span.low (is_term g span.operand dag s.there) s.order
    (omega (arith, s.within, width-tree_of g span.operand))

module _ (g h k : Graph) (dag : IsDag g) (up : Continues g h) (on : Continues h k) (levels c : ℕ) (a b : Span) (chosen : AreChosen g c a b)
    (first second : ℕ) (at : first < length h.nodes) (is : tree_of h first ≡ lifted_at g levels a) (also : tree_of k second ≡ lifted_at h levels b) where
  condition_at : c < length g.nodes
  condition_at = there g c 1 chosen.condition (omega arith)

  first_is : tree_of k first ≡ lifted_at g levels a
  first_is = tree-grown h k first on at ∙ is

  second_is : tree_of k second ≡ lifted_at g levels b
  second_is = also ∙ lifted_at-grown g h levels b up chosen.second

  pub choice_fits : (width_of k c ≡ 1) × (0 < width_of k first) × (width_of k first ≡ width_of k second)
  choice_fits =
      let yes = lifted_width g k dag levels a first chosen.first first_is in
      let no = lifted_width g k dag levels b second chosen.second second_is in (
        width-grown h k c on (there_still g h c up condition_at) ∙ width-grown g h c up condition_at ∙ chosen.condition,
        omega (arith, yes),
        omega (arith, yes, no, chosen.high, chosen.low),
      )

  pub choice_is : plain_choice (tree_of k c) (tree_of k first) (tree_of k second) ≡
      plain_choice (tree_of g c) (lifted_at g levels a) (lifted_at g levels b)
  choice_is =
      ap (λ t. plain_choice t (tree_of k first) (tree_of k second)) (tree-grown h k c on (there_still g h c up condition_at) ∙ tree-grown g h c up condition_at)
      ∙ ap (λ t. plain_choice (tree_of g c) t (tree_of k second)) first_is ∙ ap (plain_choice (tree_of g c) (lifted_at g levels a)) second_is

-- what a recipe makes, as the code finds it
pub made_of : (f g h : Graph) (recipe : Recipe) (levels : ℕ) (span : Span) (m : Lifting) → f ≡ g → h ≡ g →
    Follows f recipe (inner_part span.high span.low (tree_of f span.operand)) →
    lifted levels (recipe_tree h recipe) ≡ lifting_tree h (levels - 1) m → lifting_tree g (levels - 1) m ≡ lifted_at g levels span
made_of f g h recipe levels span m e i follows is =
    sym (subst (λ (k : Graph). lifted levels (recipe_tree k recipe) ≡ lifting_tree k (levels - 1) m) i is)
    ∙ ap (lifted levels) (subst (λ (k : Graph). recipe_tree k recipe ≡ inner_part span.high span.low (tree_of k span.operand)) e follows.is)

-- ---- the answer of a call
pub kept : {E : Type 0} (h k : Graph) (r a : Result ℕ E) (P : Graph → ℕ → Type 0) → r ≡ a → OnOk r (k ≡ h) → IfOk a (P h) → IfOk r (P k)
kept h k (Ok id) (Ok x) P e ok p =
    let same : id ≡ x = cc in
    rw same (subst (λ (g : Graph). P g x) (sym ok) p)
kept h k (Ok id) (Err x) P e ok p = cc
kept h k (Err x) a P e ok p = tt

pub kept_on : {E : Type 0} (g h k : Graph) (r : Result ℕ E) → OnOk r (k ≡ h) → Continues g h → OnOk r (Continues g k)
kept_on g h k (Ok id) ok grown = subst (Continues g) (sym ok) grown
kept_on g h k (Err x) ok grown = tt

pub stood : {E : Type 0} (more : Graph) (r : Result ℕ E) (s t : Tree) → IfOk r (λ id. tree_of more id ≡ s) → s ≡ t → IfOk r (λ id. tree_of more id ≡ t)
stood more (Ok id) s t is e = is ∙ e
stood more (Err x) s t is e = tt

-- Bits of a term, through what widens, joins and cuts, as the plans go down.
use Rattle.std.proofs.Common.{◌≡◌, ◌==◌, ◌&&◌, ℕ, ◌+◌, ◌-◌, ◌<◌, ◌≤◌, Bool, true, false, cond, length, refl, ap, sym, subst, ◌∙◌, arith, Some, None, inl, inr}
use Rattle.std.specs.Prelude.{Option, IfNone, IfSome, nat_lt, nat_le, option_map}
use Rattle.std.specs.List.{slice_get}
use Rattle.std.proofs.lemmas.Bool.{and_parts, true≢false}
use Rattle.bv_dag.specs.BitVectors.{BitVector, extract}
use Rattle.bv_dag.specs.Graphs.{Graph, IsDag, width_of}
use Rattle.bv_dag.specs.declared.nodes.Node.{Node}
use Rattle.bv_dag.specs.declared.nodes.Node.TheVariants.{Num, Input, Not, Neg, Binary, Compare, Ite, Extract, Extend, Concat}
use Rattle.term_trees.specs.Trees.{Tree, Constant, Joined, Part, Widened, tree_of, node_tree, tree_width, IsTerm}
use Rattle.term_trees.proofs.Terms.{is_term}
use Rattle.term_trees.proofs.TreeLaws.{tree_by_cases, width-tree_of}
use Rattle.term_simplify.specs.Plans.{Follows, IsSpan, IsInner, Makes, plan_tree, rest_of, same, stacked, under, under_zeros, within_widened}
use Rattle.term_simplify.specs.Plain.{extension_by, further, tree_number, number_tree, span_of, inner_part}
use Rattle.term_simplify.specs.declared.parts.Inner.{Inner}
use Rattle.term_simplify.specs.declared.parts.Span.{Span}
use Rattle.term_simplify.specs.declared.plan.Plan.{Plan}
use Rattle.term_simplify.specs.declared.recipe.Above.{Above}
use Rattle.term_simplify.proofs.PartTerms.{some_bits, term-inner_part, width-inner_part}
use Rattle.term_simplify.proofs.Reading.{IsOperand, operand, has_bits, term_at, width_at}
use Rattle.term_simplify.proofs.Stacking.{under_stacked}
use Rattle.term_simplify.proofs.Words.{is_number, lt_tells, most_false, most_true, tests_below, tests_not_below, tests_equal, tests_unequal}

-- ---- what stands there
module _ (g : Graph) (id : ℕ) (dag : IsDag g) (high low : ℕ)
    (span : IsSpan g (record { high = high; low = low; operand = id }))
    (some_not : (low == 0 && high + 1 == tree_width (tree_of g id)) ≡ false) where
  -- the same of the tree that a node shows
  not_all : (n : Node) → slice_get g.nodes id ≡ Some n → (low == 0 && high + 1 == tree_width (node_tree (tree_of g) n)) ≡ false
  not_all n is = ap (λ t. low == 0 && high + 1 == tree_width t) (sym (tree_by_cases g id n dag is)) ∙ some_not

  module _ (h l a : ℕ) (is : slice_get g.nodes id ≡ Some (Extract h l a)) where
    cut_operand : IsOperand g id a
    cut_operand = operand g id a _ dag is (omega (arith, (dag.all_fit id (Extract h l a) is).1))

    cut_widths : (l ≤ h) × (h < width_of g a) × (width_of g id ≡ h - l + 1) × (width_of g a ≤ 64)
    cut_widths =
        let t : IsTerm g.inputs (node_tree (tree_of g) (Extract h l a)) = term_at g id (Extract h l a) dag is in
        (t.1, omega (arith, t.2, width-tree_of g a), width_at g id (Extract h l a) dag is, (has_bits g a dag cut_operand.there).1)

    through_cut : inner_part high low (tree_of g id) ≡ inner_part (high + l) (low + l) (tree_of g a)
    unfolding inner_part
    through_cut = ap (inner_part high low) (tree_by_cases g id (Extract h l a) dag is) ∙ rw (not_all (Extract h l a) is) refl

    pub cut_sums : (high + l < 64) × (low + l < 64)
    cut_sums = let w = cut_widths in (
      omega (arith, w.0, w.1, w.2, w.3, span.within),
      omega
          (arith, w.0, w.1, w.2, w.3, span.order, span.within),
    )

    pub in_cut : IsInner g (record { high = high; low = low; operand = id }) (same (record { high = high + l; low = low + l; operand = a }))
    in_cut =
        let w = cut_widths in
        record {
          is_span = record {
            there = cut_operand.there;
            order = omega (arith, span.order);
            within =
                omega (arith, w.0, w.1, w.2, span.within);
          };
          earlier = cut_operand.earlier;
          same = through_cut;
          wide = omega arith;
          some = λ e. absurd (true≢false e);
        }

  module _ (by : ℕ) (signed : Bool) (a : ℕ) (is : slice_get g.nodes id ≡ Some (Extend by signed a)) where
    pub widened_operand : IsOperand g id a
    widened_operand = operand g id a _ dag is (dag.all_fit id (Extend by signed a) is).0

    -- what the term is that is widened
    narrower : Tree
    narrower = tree_of g a

    as_widened : inner_part high low (tree_of g id) ≡ inner_part high low (Widened by signed (tree_of g a))
    as_widened = ap (inner_part high low) (tree_by_cases g id (Extend by signed a) dag is)

    apart : (low == 0 && high + 1 == tree_width (tree_of g a) + by) ≡ false
    apart = not_all (Extend by signed a) is

    inside : nat_lt high (tree_width (tree_of g a)) ≡ true → inner_part high low (Widened by signed (tree_of g a)) ≡ inner_part high low (tree_of g a)
    unfolding inner_part
    inside below = rw (apart, below) refl

    across : nat_lt high (tree_width (tree_of g a)) ≡ false → nat_lt low (tree_width (tree_of g a)) ≡ true →
        inner_part high low (Widened by signed (tree_of g a)) ≡
        extension_by (high + 1 - tree_width (tree_of g a)) signed (inner_part (tree_width (tree_of g a) - 1) low (tree_of g a))
    unfolding inner_part
    across above begins = rw (apart, above, begins) refl

    over : nat_lt high (tree_width (tree_of g a)) ≡ false → nat_lt low (tree_width (tree_of g a)) ≡ false →
        inner_part high low (Widened by signed (tree_of g a)) ≡
        cond signed (further (high - low) true (inner_part (tree_width (tree_of g a) - 1) (tree_width (tree_of g a) - 1) (tree_of g a)))
        (Constant (high - low + 1) 0)
    unfolding inner_part
    over above past = rw (apart, above, past) refl

    narrower_bits : 0 < tree_width (tree_of g a)
    narrower_bits = some_bits g.inputs (tree_of g a) (term_at g id (Extend by signed a) dag is).0

    within : high < tree_width (tree_of g a) + by
    within = omega (arith, span.within, width_at g id (Extend by signed a) dag is)

    in_over : (fill : Bool) → signed ≡ fill → nat_lt high (tree_width (tree_of g a)) ≡ false → nat_lt low (tree_width (tree_of g a)) ≡ false →
        IfSome (cond fill (Some (record {
          span = record { high = tree_width (tree_of g a) - 1; low = tree_width (tree_of g a) - 1; operand = a };
          by = high - low;
          signed = true;
        })) None) (IsInner g (record { high = high; low = low; operand = id }))
    in_over false e above past = tt
    in_over true e above past = record {
      is_span = record {
        there = widened_operand.there;
        order = omega arith;
        within = omega (arith, width-tree_of g a, narrower_bits);
      };
      earlier = widened_operand.earlier;
      same = as_widened ∙ over above past ∙ rw e refl;
      wide = omega arith;
      some = λ f. absurd (true≢false f);
    }

    in_widened : IfSome (within_widened high low signed (tree_width (tree_of g a)) a) (IsInner g (record { high = high; low = low; operand = id }))
    in_widened =
        elim (lt_tells high (tree_width (tree_of g a))) [
          | inl below ↦ rw below.0 (record {
            is_span = record { there = widened_operand.there; order = span.order; within = omega (arith, below.1, width-tree_of g a) };
            earlier = widened_operand.earlier;
            same = as_widened ∙ inside below.0;
            wide = omega arith;
            some = λ e. absurd (true≢false e);
          })
          | inr above ↦ rw above.0 (elim (lt_tells low (tree_width (tree_of g a))) [
            | inl begins ↦ rw begins.0 (record {
              is_span = record {
                there = widened_operand.there;
                order = omega (arith, begins.1);
                within = omega (arith, width-tree_of g a, narrower_bits);
              };
              earlier = widened_operand.earlier;
              same =
                  as_widened ∙ across above.0 begins.0
                  ∙ rw (tests_unequal (high + 1 - tree_width (tree_of g a)) 0 (λ e. omega (arith, e, above.1))) refl;
              wide = omega (arith, above.1, begins.1);
              some = λ e. omega (arith, above.1);
            })
            | inr past ↦ rw past.0 (in_over signed refl above.0 past.0)
          ])
        ]

    pub some_widened : (r : Option Inner) (w : ℕ) → w ≡ width_of g a → r ≡ within_widened high low signed w a →
        IfSome r (IsInner g (record { high = high; low = low; operand = id }))
    some_widened r w e is =
        subst (λ o. IfSome o (IsInner g (record { high = high; low = low; operand = id })))
        (sym (is ∙ ap (λ k. within_widened high low signed k a) (e ∙ sym (width-tree_of g a)))) in_widened

    -- zeros, where they are above it and it is widened by zeros
    past_over : (fill : Bool) → signed ≡ fill → nat_lt high (tree_width (tree_of g a)) ≡ false → nat_lt low (tree_width (tree_of g a)) ≡ false →
        tree_width (tree_of g a) ≤ low →
        IfNone {T = Inner} (cond fill (Some (record {
          span = record { high = tree_width (tree_of g a) - 1; low = tree_width (tree_of g a) - 1; operand = a };
          by = high - low;
          signed = true;
        })) None) (inner_part high low (tree_of g id) ≡ rest_of high low (tree_of g id))
    past_over true e above past at_least = tt
    past_over false e above past at_least =
        as_widened ∙ over above past ∙ rw e (sym (ap (rest_of high low) (tree_by_cases g id (Extend by signed a) dag is) ∙ rw e (rw (most_true _ _ at_least) refl)))

    past_widened : IfNone (within_widened high low signed (tree_width (tree_of g a)) a) (inner_part high low (tree_of g id) ≡ rest_of high low (tree_of g id))
    past_widened =
        elim (lt_tells high (tree_width (tree_of g a))) [
          | inl below ↦ rw below.0 tt
          | inr above ↦ rw above.0 (elim (lt_tells low (tree_width (tree_of g a))) [
            | inl begins ↦ rw begins.0 tt
            | inr past ↦ rw past.0 (past_over signed refl above.0 past.0 past.1)
          ])
        ]

    pub none_widened : (r : Option Inner) (w : ℕ) → w ≡ width_of g a → r ≡ within_widened high low signed w a →
        IfNone r (inner_part high low (tree_of g id) ≡ rest_of high low (tree_of g id))
    none_widened r w e is =
        subst (λ o. IfNone o (inner_part high low (tree_of g id) ≡ rest_of high low (tree_of g id)))
        (sym (is ∙ ap (λ k. within_widened high low signed k a) (e ∙ sym (width-tree_of g a)))) past_widened

  module _ (u l : ℕ) (is : slice_get g.nodes id ≡ Some (Concat u l)) where
    upper_operand : IsOperand g id u
    upper_operand = operand g id u _ dag is (dag.all_fit id (Concat u l) is).0

    pub lower_operand : IsOperand g id l
    lower_operand = operand g id l _ dag is (dag.all_fit id (Concat u l) is).1

    joined_width : width_of g id ≡ width_of g u + width_of g l
    joined_width = omega (arith, width_at g id (Concat u l) dag is, width-tree_of g u, width-tree_of g l)

    through_lower : nat_lt high (tree_width (tree_of g l)) ≡ true →
        inner_part high low (tree_of g id) ≡ inner_part high low (tree_of g l)
    unfolding inner_part
    through_lower e = ap (inner_part high low) (tree_by_cases g id (Concat u l) dag is) ∙ rw (not_all (Concat u l) is, e) refl

    through_upper : nat_lt high (tree_width (tree_of g l)) ≡ false →
        nat_le (tree_width (tree_of g l)) low ≡ true →
        inner_part high low (tree_of g id) ≡ inner_part (high - tree_width (tree_of g l)) (low - tree_width (tree_of g l)) (tree_of g u)
    unfolding inner_part
    through_upper e f = ap (inner_part high low) (tree_by_cases g id (Concat u l) dag is) ∙ rw (not_all (Concat u l) is, e, f) refl

    across_both : nat_lt high (tree_width (tree_of g l)) ≡ false →
        nat_le (tree_width (tree_of g l)) low ≡ false →
        inner_part high low (tree_of g id) ≡ rest_of high low (tree_of g id)
    unfolding inner_part
    across_both e f = rw (tree_by_cases g id (Concat u l) dag is) (rw (not_all (Concat u l) is, e, f) refl)

    pub in_lower : (w : ℕ) → w ≡ width_of g l → high < w →
        IsInner g (record { high = high; low = low; operand = id }) (same (record { high = high; low = low; operand = l }))
    in_lower w e h = record {
      is_span = record { there = lower_operand.there; order = span.order; within = omega (arith, h, e) };
      earlier = lower_operand.earlier;
      same = through_lower (tests_below _ _ (omega (arith, h, e, width-tree_of g l)));
      wide = omega arith;
      some = λ f. absurd (true≢false f);
    }

    pub in_upper : (w : ℕ) → w ≡ width_of g l → w ≤ high → w ≤ low →
        IsInner g (record { high = high; low = low; operand = id }) (same (record { high = high - w; low = low - w; operand = u }))
    in_upper w e h k = record {
      is_span = record {
        there = upper_operand.there;
        order = omega (arith, span.order);
        within =
            omega (arith, joined_width, span.within, e, h);
      };
      earlier = upper_operand.earlier;
      same =
          through_upper (tests_not_below _ _ (omega (arith, h, e, width-tree_of g l)))
          (most_true _ _ (omega (arith, k, e, width-tree_of g l)))
          ∙ ap (λ j. inner_part (high - j) (low - j) (tree_of g u)) (width-tree_of g l ∙ sym e);
      wide = omega (arith, k, span.order);
      some = λ f. absurd (true≢false f);
    }

    pub across_halves : (w : ℕ) → w ≡ width_of g l → w ≤ high → low < w →
        inner_part high low (tree_of g id) ≡ rest_of high low (tree_of g id)
    across_halves w e h k = across_both (tests_not_below _ _
        (omega (arith, h, e, width-tree_of g l))) (most_false _ _
        (omega (arith, k, e, width-tree_of g l)))

-- ---- all bits
whole_rest : (inputs : ℕ) (t : Tree) (high low : ℕ) → IsTerm inputs t → (low == 0 && high + 1 == tree_width t) ≡ true →
    inner_part high low t ≡ rest_of high low t
unfolding inner_part
whole_rest inputs (Part h l t) high low term all = rw all refl
whole_rest inputs (Joined s t) high low term all = rw all refl
whole_rest inputs (Widened by true t) high low term all = rw all refl
whole_rest inputs (Widened by false t) high low term all =
    let (zero, top) = and_parts (low == 0) (high + 1 == tree_width t + by) all in
    rw (all, most_false (tree_width t) low (omega (arith, is_number low 0 zero, some_bits inputs t term.0))) refl
whole_rest inputs t high low term all = refl

pub all_of_it : (g : Graph) (id high low : ℕ) (b : Bool) → IsDag g → id < length g.nodes →
    b ≡ (low == 0 && high + 1 == tree_width (tree_of g id)) → b ≡ true →
    inner_part high low (tree_of g id) ≡ rest_of high low (tree_of g id)
all_of_it g id high low b dag there is all = whole_rest g.inputs (tree_of g id) high low (is_term g id dag there) (sym is ∙ all)

part_none : (f : ℕ → Tree) (n : Node) (high low : ℕ) → ((h l a : ℕ) → n ≡ Extract h l a → ⊥) →
    ((by : ℕ) (signed : Bool) (a : ℕ) → n ≡ Extend by signed a → ⊥) →
    ((u l : ℕ) → n ≡ Concat u l → ⊥) →
    inner_part high low (node_tree f n) ≡ rest_of high low (node_tree f n)
unfolding inner_part
part_none f (Extract h l a) high low x y z = absurd (x h l a refl)
part_none f (Extend by signed a) high low x y z = absurd (y by signed a refl)
part_none f (Concat u l) high low x y z = absurd (z u l refl)
part_none f (Num w v) high low x y z = refl
part_none f (Input i) high low x y z = refl
part_none f (Not a) high low x y z = refl
part_none f (Neg a) high low x y z = refl
part_none f (Binary op a b) high low x y z = refl
part_none f (Compare op a b) high low x y z = refl
part_none f (Ite c a b) high low x y z = refl

pub in_none : (g : Graph) (id : ℕ) (n : Node) (high low : ℕ) → IsDag g →
    slice_get g.nodes id ≡ Some n → ((h l a : ℕ) → n ≡ Extract h l a → ⊥) →
    ((by : ℕ) (signed : Bool) (a : ℕ) → n ≡ Extend by signed a → ⊥) →
    ((u l : ℕ) → n ≡ Concat u l → ⊥) →
    inner_part high low (tree_of g id) ≡ rest_of high low (tree_of g id)
in_none g id n high low dag is x y z = rw (tree_by_cases g id n dag is) (part_none (tree_of g) n high low x y z)

-- ---- bits that are not those of an operand alone
rest_under : (t u : Tree) (high low : ℕ) → Some u ≡ under_zeros t →
    rest_of high low t ≡ cond (nat_le (tree_width u) low) (Constant (high - low + 1) 0) (span_of high low t)
rest_under (Widened by false t) u high low e = let same : t ≡ u = cc in ap
    (λ k. cond (nat_le (tree_width k) low) (Constant (high - low + 1) 0)
    (span_of high low (Widened by false t))) same
rest_under (Widened by true t) u high low e = cc
rest_under t u high low e = cc

pub rest_under_none : (t : Tree) (high low : ℕ) → None ≡ under_zeros t →
    rest_of high low t ≡ span_of high low t
rest_under_none (Widened by false t) high low e = cc
rest_under_none (Widened by true t) high low e = refl
rest_under_none t high low e = refl

pub rest_by_width : (g : Graph) (id k w high low : ℕ) (r : Option ℕ) → r ≡ Some k →
    option_map (tree_of g) r ≡ under_zeros (tree_of g id) → w ≡ width_of g k →
    rest_of high low (tree_of g id) ≡ cond (nat_le w low) (Constant (high - low + 1) 0) (span_of high low (tree_of g id))
rest_by_width g id k w high low r is e wide =
    rest_under (tree_of g id) (tree_of g k) high low (sym (ap (option_map (tree_of g)) is) ∙ e)
    ∙ ap (λ j. cond (nat_le j low) (Constant (high - low + 1) 0) (span_of high low (tree_of g id))) (width-tree_of g k ∙ sym wide)

-- all bits are the term, and others stay as they are
pub span_all : (g : Graph) (id high low w : ℕ) (r : Option BitVector) → r ≡ None →
    r ≡ tree_number (tree_of g id) → low ≡ 0 → high + 1 ≡ w → w ≡ width_of g id →
    span_of high low (tree_of g id) ≡ tree_of g id
span_all g id high low w r is e zero whole wide =
    rw (
      ← e,
      is,
      tests_equal low 0 zero,
      tests_equal (high + 1) (tree_width (tree_of g id))
          (omega (arith, whole, wide, width-tree_of g id)),
    ) refl

pub span_low : (g : Graph) (id high low : ℕ) (r : Option BitVector) → r ≡ None →
    r ≡ tree_number (tree_of g id) → (low ≡ 0 → ⊥) →
    span_of high low (tree_of g id) ≡ Part high low (tree_of g id)
span_low g id high low r is e some = rw (← e, is, tests_unequal low 0 some) refl

pub span_high : (g : Graph) (id high low w : ℕ) (r : Option BitVector) → r ≡ None →
    r ≡ tree_number (tree_of g id) → low ≡ 0 → (high + 1 ≡ w → ⊥) → w ≡ width_of g id →
    span_of high low (tree_of g id) ≡ Part high low (tree_of g id)
span_high g id high low w r is e zero other wide =
    rw (
      ← e,
      is,
      tests_equal low 0 zero,
      tests_unequal (high + 1) (tree_width (tree_of g id))
          (λ same. other (omega (arith, same, wide, width-tree_of g id))),
    ) refl

pub span_number : (g : Graph) (id high low : ℕ) (r : Option BitVector) (x y : BitVector) →
    r ≡ Some x → r ≡ tree_number (tree_of g id) → y ≡ extract high low x →
    span_of high low (tree_of g id) ≡ number_tree y
span_number g id high low r x y is e f = rw (← e, is, f) refl

-- ---- how far the walk has come: the bits that are wanted are these, under further ones
pub record HasCome (g : Graph) (high low id : ℕ) (span : Span) (above : Above) : Type 0 where
  pub is_span : IsSpan g span
  pub same : inner_part high low (tree_of g id) ≡ under above (inner_part span.high span.low (tree_of g span.operand))
  pub wide : high - low ≡ span.high - span.low + above.signs + above.zeros
  pub start : IsSpan g (record { high = high; low = low; operand = id })

module _ (g : Graph) (dag : IsDag g) (high low id : ℕ) (span : Span) (above : Above) (come : HasCome g high low id span above) where
  few : high - low < 64
  few = omega (arith, come.start.within, (has_bits g id dag come.start.there).1)

  pub room_to_go : (inner : Inner) → IsInner g span inner → above.signs + inner.by + above.zeros ≤ 64
  room_to_go inner is = omega (arith, come.wide, few, is.wide)

  stacked_sum : (by : ℕ) (signed : Bool) → (stacked above by signed).signs + (stacked above by signed).zeros ≡ above.signs + by + above.zeros
  stacked_sum by true = refl
  stacked_sum by false = omega arith

  pub come_on : (inner : Inner) → IsInner g span inner → (more : Above) → more ≡ stacked above inner.by inner.signed →
      HasCome g high low id inner.span more
  come_on inner is more e =
      let at = is.is_span in
      let t = tree_of g inner.span.operand in
      let term : IsTerm g.inputs t = is_term g inner.span.operand dag at.there in
      let top : inner.span.high < tree_width t = omega (arith, at.within, width-tree_of g inner.span.operand) in
      rw e (record {
        is_span = at;
        same =
            come.same ∙ ap (under above) is.same
            ∙ under_stacked g.inputs above inner.by inner.signed (inner_part inner.span.high inner.span.low t)
            (term-inner_part g.inputs t inner.span.high inner.span.low term at.order top) is.some
            (omega (arith, width-inner_part g.inputs t inner.span.high inner.span.low term at.order top, come.wide, few, is.wide));
        wide = omega (arith, come.wide, is.wide, stacked_sum inner.by inner.signed);
        start = come.start;
      })

  pub come_home : (plan : Plan) → Makes g plan (rest_of span.high span.low (tree_of g span.operand)) →
      inner_part span.high span.low (tree_of g span.operand) ≡ rest_of span.high span.low (tree_of g span.operand) →
      Follows g (record { core = plan; above = above }) (inner_part high low (tree_of g id))
  come_home plan makes rest =
      let t = tree_of g span.operand in
      let at = come.is_span in
      let term : IsTerm g.inputs t = is_term g span.operand dag at.there in
      let top : span.high < tree_width t = omega (arith, at.within, width-tree_of g span.operand) in
      let made : plan_tree g plan ≡ inner_part span.high span.low t = makes.is ∙ sym rest in
      let bits : tree_width (plan_tree g plan) ≡ span.high - span.low + 1 = ap tree_width made ∙ width-inner_part g.inputs t span.high span.low term at.order top in
      record {
        is = ap (under above) made ∙ sym come.same;
        fits = record { core = makes.fits; room = λ _. (omega (arith, bits), omega (arith, bits, come.wide, few)) };
      }

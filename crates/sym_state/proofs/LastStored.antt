-- Values that are loaded after the stores of a list, with the terms for them.
use Rattle.std.proofs.Common.{◌≡◌, ℕ, zero, suc, ◌+◌, ◌*◌, ◌/◌, ◌%◌, ◌^◌, ◌<◌, Bool, List, [], ◌∷◌, ◌++◌, length, map, take, refl, sym, ap, subst, ◌∙◌, arith}
use Rattle.std.specs.Prelude.{◌==◌, All, Result, Ok, Err, IfOk, None, Some, if◌then◌else◌, slice_get}
use Rattle.std.proofs.lemmas.List.{map-append}
use Rattle.std.proofs.lemmas.List.Elements.{All-head, All-tail}
use Rattle.bv_dag.specs.BitVectors.{BitVector}
use Rattle.bv_dag.specs.Graphs.{Graph, number_of, val, width_of}
use Rattle.bv_dag.specs.declared.nodes.Comparison.TheVariants.{Eq}
use Rattle.bv_dag.specs.declared.nodes.Node.TheVariants.{Compare}
use Rattle.cow_pages.specs.declared.byte.Byte.{Byte}
use Rattle.rv_decode.specs.declared.ops.LoadWidth.{LoadWidth}
use Rattle.rv_decode.specs.declared.ops.LoadWidth.TheVariants.{Lw}
use Rattle.term_simplify.specs.Builds.{BuildsNode}
use Rattle.term_simplify.specs.Operations.{widened}
use Rattle.term_simplify.specs.Simplified.{comparison_of}
use Rattle.term_trees.specs.Growth.{Continues}
use Rattle.term_trees.specs.Trees.{Tree, tree_of}
use Rattle.sym_state.specs.Expressions.{Expression, bit_expression, byte_expression, register_byte, settled, value_expression, widened_half}
use Rattle.sym_state.specs.KeptUpdates.{IsUpdate, update_expressed}
use Rattle.sym_state.specs.Recalling.{Recalls, number_after, number_after_all, number_loaded}
use Rattle.sym_state.specs.Updates.{Update, as_loaded, loaded_after, loaded_after_all, value_where}
use Rattle.sym_state.specs.Values.{GivesByte, GivesValue, IsWide, bit_worth, byte_worth, worth_of}
use Rattle.sym_state.specs.declared.updates.Site.{Site}
use Rattle.sym_state.specs.declared.updates.Update as code
use Rattle.sym_state.specs.declared.value.Bit.{Bit}
use Rattle.sym_state.specs.declared.value.Bit.TheVariants.{Term}
use Rattle.sym_state.specs.declared.value.Value.{Value}
use Rattle.sym_state.proofs.Coming.{equal-one}
use Rattle.sym_state.proofs.Expressing.{byte_expression-grown, expression-grown, tree-kept}
use Rattle.sym_state.proofs.Growing.{Continues-trans, byte_worth-grown, number-grown, worth-grown}
use Rattle.sym_state.proofs.Grown.{Continues-refl}
use Rattle.sym_state.proofs.Listing.{copied-more}
use Rattle.sym_state.proofs.Updating.{update_expressed-grown}

-- ---- The low bytes of a value.
two_bytes : (n : ℕ) → n / 2 ^ (8 * 0) % 2 ^ 8 + 2 ^ 8 * (n / 2 ^ (8 * 1) % 2 ^ 8) ≡ n % 2 ^ 16
two_bytes n = omega arith

module _ (g h k m : Graph) (signed : Bool) (v : Value) (low high : Byte) (wide : IsWide g v)
    (first : GivesByte g h low (λ input. worth_of g input v / 2 ^ (8 * 0) % 2 ^ 8))
    (second : GivesByte h k high (λ input. worth_of h input v / 2 ^ (8 * 1) % 2 ^ 8)) where
  pub half_gives : {E : Type 0} (r : Result Value E)
      → IfOk r (λ x. GivesValue k m x (λ input. widened signed 16 (byte_worth k input low + 2 ^ 8 * byte_worth k input high)))
      → IfOk r (λ x. GivesValue g m x (λ input. widened signed 16 (worth_of g input v % 2 ^ 16)))
  half_gives (Err e) gives = tt
  half_gives (Ok x) gives = record {
    continues = Continues-trans (Continues-trans first.continues second.continues) gives.continues;
    wide = gives.wide;
    worth = λ input small.
        let n = worth_of g input v in
        gives.worth input small
        ∙ ap (λ b. widened signed 16 (b + 2 ^ 8 * byte_worth k input high))
        (byte_worth-grown h k input low second.continues first.is_byte ∙ first.worth input small)
        ∙ ap (λ b. widened signed 16 (n / 2 ^ (8 * 0) % 2 ^ 8 + 2 ^ 8 * b))
        (second.worth input small ∙ ap (λ w. w / 2 ^ (8 * 1) % 2 ^ 8) (worth-grown g h input v first.continues wide))
        ∙ ap (widened signed 16) (two_bytes n);
  }

  pub half_expressed : {E : Type 0} (r : Result Value E) → byte_expression h low ≡ register_byte 0 (value_expression g v)
      → byte_expression k high ≡ register_byte 1 (value_expression h v)
      → IfOk r (λ x. value_expression m x ≡ widened_half signed (byte_expression k low) (byte_expression k high))
      → IfOk r (λ x. value_expression m x ≡ widened_half signed (register_byte 0 (value_expression g v)) (register_byte 1 (value_expression g v)))
  half_expressed (Err e) low_is high_is made = tt
  half_expressed (Ok x) low_is high_is made =
      made
      ∙ ap (λ e. widened_half signed e (byte_expression k high)) (byte_expression-grown h k low second.continues first.is_byte ∙ low_is)
      ∙ ap (widened_half signed (register_byte 0 (value_expression g v)))
      (high_is ∙ ap (register_byte 1) (expression-grown g h v first.continues wide))

-- all bytes of a value are the value
word_again : (n : ℕ) → n < 2 ^ 32
    → n ≡ n / 2 ^ (8 * 0) % 2 ^ 8 + 2 ^ 8 * (n / 2 ^ (8 * 1) % 2 ^ 8) + 2 ^ 16 * (n / 2 ^ (8 * 2) % 2 ^ 8) + 2 ^ 24 * (n / 2 ^ (8 * 3) % 2 ^ 8)
word_again n small = omega (arith, small)

pub kept_word : (g : Graph) (v : Value) → IsWide g v → ((input : List ℕ) → All (λ b. b < 256) input → worth_of g input v < 2 ^ 32)
    → GivesValue g g v (λ input. number_loaded Lw (worth_of g input v))
kept_word g v wide below = record {
  continues = Continues-refl g;
  wide = wide;
  worth = λ input small. word_again (worth_of g input v) (below input small);
}

-- ---- After one store.
module _ (g h k m : Graph) (width : LoadWidth) (bits test : ℕ) (one : code.Update) (before value : Value) (bit : Bit)
    (some : 0 < width_of g bits) (same : width_of g one.bits ≡ width_of g bits) (old : IsWide g before)
    (loads : GivesValue g h value (λ input. number_loaded width (worth_of g input one.value)))
    (loaded : value_expression h value ≡ as_loaded width (value_expression g one.value))
    (built : BuildsNode h k (Compare Eq one.bits bits) test)
    (bit_is : (input : List ℕ) → bit_worth k input bit ≡ bit_worth k input (Term test))
    (expressed : bit_expression k bit ≡ settled (tree_of k test)) where
  both : Continues g k
  both = Continues-trans loads.continues built.continues

  tests : (input : List ℕ) → All (λ b. b < 256) input → bit_worth k input bit ≡ (number_of g one.bits input == number_of g bits input)
  tests input small =
      bit_is input
      ∙ ap (λ (x : BitVector). x.number == 1) (built.value input small)
      ∙ equal-one (val h one.bits input) (val h bits input)
      ∙ cc (
        number-grown g h one.bits (width_of g bits) input loads.continues same some,
        number-grown g h bits (width_of g bits) input loads.continues refl some,
      )

  tests_expressed : bit_expression k bit ≡ settled (comparison_of Eq (tree_of g one.bits) (tree_of g bits))
  tests_expressed =
      expressed ∙ ap settled (built.tree ∙ cc (
        tree-kept g h one.bits (width_of g bits) loads.continues same some,
        tree-kept g h bits (width_of g bits) loads.continues refl some,
      ))

  pub recalls_one : {E : Type 0} (r : Result Value E)
      → IfOk r (λ x. GivesValue k m x (λ input. if bit_worth k input bit then worth_of k input value else worth_of k input before))
      → IfOk r (λ x. value_expression m x ≡ value_where (bit_expression k bit) (value_expression k value) (value_expression k before))
      → IfOk r (Recalls g m width bits (one ∷ []) before)
  recalls_one (Err e) gives made = tt
  recalls_one (Ok x) gives made = record {
    continues = Continues-trans both gives.continues;
    wide = gives.wide;
    worth = λ input small.
        gives.worth input small
        ∙ ap (λ t. if t then worth_of k input value else worth_of k input before) (tests input small)
        ∙ ap (λ n. if number_of g one.bits input == number_of g bits input then n else worth_of k input before)
        (worth-grown h k input value built.continues loads.wide ∙ loads.worth input small)
        ∙ ap (λ n. if number_of g one.bits input == number_of g bits input then number_loaded width (worth_of g input one.value) else n)
        (worth-grown g k input before both old);
    expression =
        made
        ∙ ap (λ e. value_where e (value_expression k value) (value_expression k before)) tests_expressed
        ∙ ap (λ e. value_where (settled (comparison_of Eq (tree_of g one.bits) (tree_of g bits))) e (value_expression k before))
        (expression-grown h k value built.continues loads.wide ∙ loaded)
        ∙ ap (value_where (settled (comparison_of Eq (tree_of g one.bits) (tree_of g bits))) (as_loaded width (value_expression g one.value)))
        (expression-grown g k before both old);
  }

-- ---- After several.
pub recalls_none : (g : Graph) (width : LoadWidth) (bits : ℕ) (v : Value) → IsWide g v → Recalls g g width bits [] v v
recalls_none g width bits v wide = record {
  continues = Continues-refl g;
  wide = wide;
  worth = λ input small. refl;
  expression = refl;
}

number_after_more : (g : Graph) (width : LoadWidth) (bits : ℕ) (input : List ℕ) (stored : List code.Update) (one : code.Update) (n : ℕ)
    → number_after_all g width bits input (stored ++ one ∷ []) n
    ≡ number_after g width bits input one (number_after_all g width bits input stored n)
number_after_more g width bits input [] one n = refl
number_after_more g width bits input (other ∷ others) one n =
    number_after_more g width bits input others one (number_after g width bits input other n)

loaded_after_more : (width : LoadWidth) (bits : Tree) (stored : List Update) (one : Update) (e : Expression)
    → loaded_after_all width bits (stored ++ one ∷ []) e ≡ loaded_after width bits one (loaded_after_all width bits stored e)
loaded_after_more width bits [] one e = refl
loaded_after_more width bits (other ∷ others) one e = loaded_after_more width bits others one (loaded_after width bits other e)

pub recalls_more : (f g h : Graph) (width : LoadWidth) (bits at : ℕ) (site : Site) (stored : List code.Update) (one : code.Update)
    (before last v : Value) → 0 < site.stride.count → width_of f bits ≡ site.stride.count
    → slice_get stored at ≡ Some one → IsUpdate f site one
    → Recalls f g width bits (take at stored) before last → Recalls g h width bits (one ∷ []) last v
    → Recalls f h width bits (take (at + 1) stored) before v
recalls_more f g h width bits at site stored one before last v some wide there is done more =
    let grown = done.continues in
    let now : take at stored ++ one ∷ [] ≡ take (at + 1) stored = copied-more stored (take at stored) at one there refl in
    record {
      continues = Continues-trans grown more.continues;
      wide = more.wide;
      worth = λ input small.
          more.worth input small
          ∙ cc (
            number-grown f g one.bits site.stride.count input grown is.bits some,
            number-grown f g bits site.stride.count input grown wide some,
            worth-grown f g input one.value grown is.wide,
            done.worth input small,
          )
          ∙ sym (number_after_more f width bits input (take at stored) one (worth_of f input before))
          ∙ ap (λ xs. number_after_all f width bits input xs (worth_of f input before)) now;
      expression =
          more.expression
          ∙ cc (
            tree-kept f g bits site.stride.count grown wide some,
            update_expressed-grown f g grown site some one is,
            done.expression,
          )
          ∙ sym (loaded_after_more width (tree_of f bits) (map (update_expressed f) (take at stored)) (update_expressed f one) (value_expression f before))
          ∙ ap (λ xs. loaded_after_all width (tree_of f bits) xs (value_expression f before))
          (sym (map-append (update_expressed f) (take at stored) (one ∷ [])) ∙ ap (map (update_expressed f)) now);
    }

-- an item of a list has what all have
pub All-at : {A : Type 0} (P : A → Type 0) (xs : List A) (at : ℕ) (x : A) → All P xs → slice_get xs at ≡ Some x → P x
All-at P [] at x all there = cc there
All-at P (y ∷ ys) zero x all there = let same : y ≡ x = cc there in subst P same (All-head P y ys all)
All-at P (y ∷ ys) (suc at) x all there = All-at P ys at x (All-tail P y ys all) there

-- and there is one at each place
pub none-past : {A : Type 0} (xs : List A) (at : ℕ) → slice_get xs at ≡ None → at < length xs → ⊥
none-past [] at none below = omega (arith, below)
none-past (x ∷ xs) zero none below = cc none
none-past (x ∷ xs) (suc at) none below = none-past xs at none (omega (arith, below))

-- What is loaded where the last stores are kept: what they made of the bytes before them.
use Rattle.std.proofs.Common.{◌≡◌, ◌≢◌, ℕ, ◌+◌, ◌*◌, ◌/◌, ◌%◌, ◌^◌, ◌<◌, ◌&&◌, Bool, true, false, List, [], ◌∷◌, refl, sym, ap, ◌∙◌, arith}
use Rattle.std.specs.Prelude.{◌==◌, All, if◌then◌else◌}
use Rattle.std.proofs.lemmas.Bool.{and_parts}
use Rattle.std.proofs.lemmas.Bool.Decides.{nat_tests}
use Rattle.std.proofs.lemmas.Nat.{div-mul-add, pow_pos}
use Rattle.bv_dag.specs.Graphs.{Graph, number_of}
use Rattle.cow_pages.specs.SymbolicMemory.{SymbolicMemory}
use Rattle.rv_decode.specs.declared.ops.LoadWidth.{LoadWidth}
use Rattle.rv_decode.specs.declared.ops.LoadWidth.TheVariants.{Lb, Lh, Lw, Lbu, Lhu}
use Rattle.rv_spec.specs.Machine.{is_load_aligned}
use Rattle.rv_spec.specs.Machine as machine
use Rattle.sym_state.specs.KeptUpdates.{AreUpdates, KeptUpdates, byte_with, byte_with_all}
use Rattle.sym_state.specs.Loading.{bytes, is_place}
use Rattle.sym_state.specs.Placing.{bytes_worth}
use Rattle.sym_state.specs.Recalling.{number_after_all, number_loaded}
use Rattle.sym_state.specs.Storing.{may_come}
use Rattle.sym_state.specs.Updates.{is_at}
use Rattle.sym_state.specs.Values.{worth_of}
use Rattle.sym_state.specs.declared.updates.Site.{Site}
use Rattle.sym_state.specs.declared.updates.Update as code
use Rattle.sym_state.proofs.Coming.{led_may}

-- ---- The bytes that a load takes.
at_none : (n : ℕ) → n + 0 ≡ n
at_none n = omega arith

-- it depends on these bytes alone
loaded-at : (width : LoadWidth) (f h : ℕ → ℕ) (a : ℕ) → ((i : ℕ) → i < bytes width → f (a + i) ≡ h i)
    → machine.loaded width f a ≡ machine.loaded width h 0
loaded-at Lb f h a same =
    let b0 = ap f (sym (at_none a)) ∙ same 0 (omega arith) in cc b0
loaded-at Lbu f h a same =
    let b0 = ap f (sym (at_none a)) ∙ same 0 (omega arith) in cc b0
loaded-at Lh f h a same =
    let b0 = ap f (sym (at_none a)) ∙ same 0 (omega arith) in
    let b1 = same 1 (omega arith) in cc (b0, b1)
loaded-at Lhu f h a same =
    let b0 = ap f (sym (at_none a)) ∙ same 0 (omega arith) in
    let b1 = same 1 (omega arith) in cc (b0, b1)
loaded-at Lw f h a same =
    let b0 = ap f (sym (at_none a)) ∙ same 0 (omega arith) in
    let b1 = same 1 (omega arith) in
    let b2 = same 2 (omega arith) in
    let b3 = same 3 (omega arith) in cc (b0, b1, b2, b3)

loaded-same : (width : LoadWidth) (f h : ℕ → ℕ) (a : ℕ) → ((i : ℕ) → i < bytes width → f (a + i) ≡ h (a + i))
    → machine.loaded width f a ≡ machine.loaded width h a
loaded-same width f h a same =
    loaded-at width f (λ i. h (a + i)) a same ∙ sym (loaded-at width h (λ i. h (a + i)) a (λ i below. refl))

-- they stand at one place, one behind the other
whole : (width : LoadWidth) (a i : ℕ) → is_load_aligned width a ≡ true → i < bytes width
    → (a + i) / bytes width * bytes width ≡ a
whole Lb a i aligned below = omega (arith, below)
whole Lbu a i aligned below = omega (arith, below)
whole Lh a i aligned below = let even : a % 2 ≡ 0 = grind (arith, nat_tests, aligned) in omega (arith, below, even)
whole Lhu a i aligned below = let even : a % 2 ≡ 0 = grind (arith, nat_tests, aligned) in omega (arith, below, even)
whole Lw a i aligned below = let even : a % 4 ≡ 0 = grind (arith, nat_tests, aligned) in omega (arith, below, even)

part : (width : LoadWidth) (a i : ℕ) → is_load_aligned width a ≡ true → i < bytes width
    → (a + i) % bytes width ≡ i
part Lb a i aligned below = omega (arith, below)
part Lbu a i aligned below = omega (arith, below)
part Lh a i aligned below = let even : a % 2 ≡ 0 = grind (arith, nat_tests, aligned) in omega (arith, below, even)
part Lhu a i aligned below = let even : a % 2 ≡ 0 = grind (arith, nat_tests, aligned) in omega (arith, below, even)
part Lw a i aligned below = let even : a % 4 ≡ 0 = grind (arith, nat_tests, aligned) in omega (arith, below, even)

same_page : (width : LoadWidth) (a i : ℕ) → is_load_aligned width a ≡ true → i < bytes width → (a + i) / 256 ≡ a / 256
same_page Lb a i aligned below = omega (arith, below)
same_page Lbu a i aligned below = omega (arith, below)
same_page Lh a i aligned below = let even : a % 2 ≡ 0 = grind (arith, nat_tests, aligned) in omega (arith, below, even)
same_page Lhu a i aligned below = let even : a % 2 ≡ 0 = grind (arith, nat_tests, aligned) in omega (arith, below, even)
same_page Lw a i aligned below = let even : a % 4 ≡ 0 = grind (arith, nat_tests, aligned) in omega (arith, below, even)

-- ---- One store, and several.
times-cancel : (n k by : ℕ) → 0 < by → n * by ≡ k * by → n ≡ k
times-cancel n k by some same =
    sym (div-mul-add n by 0 some) ∙ ap (λ d. (d + 0) / by) same ∙ div-mul-add k by 0 some

abbrev byte_up : (n at : ℕ) → ℕ
byte_up n at = n / 2 ^ (8 * at) % 2 ^ 8

module _ (g : Graph) (site : Site) (width : LoadWidth) (as_wide : bytes site.width ≡ bytes width) (bits a : ℕ) (input : List ℕ)
    (aligned : is_load_aligned width a ≡ true)
    (there : a ≡ site.stride.start + number_of g bits input * 2 ^ site.stride.scale) where
  place_is : (i : ℕ) → i < bytes width → (a + i) / bytes site.width * bytes site.width ≡ a
  place_is i below = ap (λ b. (a + i) / b * b) as_wide ∙ whole width a i aligned below

  part_is : (i : ℕ) → i < bytes width → (a + i) % bytes site.width ≡ i
  part_is i below = ap (λ b. (a + i) % b) as_wide ∙ part width a i aligned below

  one_by : (one : code.Update) (m : ℕ → ℕ) (i : ℕ) (t : Bool) → (number_of g one.bits input == number_of g bits input) ≡ t → i < bytes width
      → byte_with g site input (a + i) one (m (a + i)) ≡ (if t then byte_up (worth_of g input one.value) i else m (a + i))
  one_by one m i true is below =
      let same : number_of g one.bits input ≡ number_of g bits input = grind (arith, nat_tests, is) in
      let to : (a + i) / bytes site.width * bytes site.width ≡ site.stride.start + number_of g one.bits input * 2 ^ site.stride.scale =
      place_is i below ∙ there ∙ ap (λ n. site.stride.start + n * 2 ^ site.stride.scale) (sym same) in
      let here : ((a + i) / bytes site.width * bytes site.width == site.stride.start + number_of g one.bits input * 2 ^ site.stride.scale) ≡ true = grind (arith, nat_tests, to) in
      ap (λ t. if t then byte_up (worth_of g input one.value) ((a + i) % bytes site.width) else m (a + i)) here
      ∙ ap (byte_up (worth_of g input one.value)) (part_is i below)
  one_by one m i false is below =
      let apart : number_of g one.bits input ≢ number_of g bits input = grind (arith, nat_tests, is) in
      let by = 2 ^ site.stride.scale in
      let not_to : (a + i) / bytes site.width * bytes site.width ≢ site.stride.start + number_of g one.bits input * 2 ^ site.stride.scale =
      λ to. apart (times-cancel (number_of g one.bits input) (number_of g bits input) by (pow_pos site.stride.scale)
      (let both : site.stride.start + number_of g one.bits input * by ≡ site.stride.start + number_of g bits input * by = sym to ∙ place_is i below ∙ there in omega (arith, both))) in
      let other : ((a + i) / bytes site.width * bytes site.width == site.stride.start + number_of g one.bits input * 2 ^ site.stride.scale) ≡ false = grind (arith, nat_tests, not_to) in
      ap (λ t. if t then byte_up (worth_of g input one.value) ((a + i) % bytes site.width) else m (a + i)) other

  one_is_by : (one : code.Update) (m : ℕ → ℕ) (t : Bool) → (number_of g one.bits input == number_of g bits input) ≡ t
      → machine.loaded width (λ x. byte_with g site input x one (m x)) a
      ≡ (if t then number_loaded width (worth_of g input one.value) else machine.loaded width m a)
  one_is_by one m true is =
      loaded-at width (λ x. byte_with g site input x one (m x)) (byte_up (worth_of g input one.value)) a (λ i below. one_by one m i true is below)
  one_is_by one m false is =
      loaded-same width (λ x. byte_with g site input x one (m x)) m a (λ i below. one_by one m i false is below)

  all_is : (stored : List code.Update) (m : ℕ → ℕ) → machine.loaded width (λ x. byte_with_all g site input x stored (m x)) a
      ≡ number_after_all g width bits input stored (machine.loaded width m a)
  all_is [] m = refl
  all_is (one ∷ others) m =
      all_is others (λ x. byte_with g site input x one (m x))
      ∙ ap (number_after_all g width bits input others) (one_is_by one m (number_of g one.bits input == number_of g bits input) refl)

-- what is loaded where the bits lead
pub recalled_is : (g : Graph) (memory : SymbolicMemory) (t : KeptUpdates) (width : LoadWidth) (page bits a : ℕ) (input : List ℕ)
    → AreUpdates g memory t → t.site.page ≡ page → bytes t.site.width ≡ bytes width → All (λ b. b < 256) input
    → number_of g bits input < 2 ^ t.site.stride.count → is_place width page a ≡ true
    → a ≡ t.site.stride.start + number_of g bits input * 2 ^ t.site.stride.scale
    → machine.loaded width (bytes_worth g memory input) a
    ≡ number_after_all g width bits input t.stored (machine.loaded width (bytes_worth g t.before input) a)
recalled_is g memory t width page bits a input is on as_wide small few here there =
    let both = and_parts (a / 256 == page) (is_load_aligned width a) here in
    let page_is : a / 256 ≡ page = let t = both.0 in grind (arith, nat_tests, t) in
    let may : may_come t.site.stride a ≡ true = led_may t.site.stride a (number_of g bits input) few there in
    let at_site : (i : ℕ) → i < bytes width → is_at t.site (a + i) ≡ true =
    λ i below.
    let paged : (a + i) / 256 ≡ t.site.page = same_page width a i both.1 below ∙ page_is ∙ sym on in
    let first : ((a + i) / 256 == t.site.page) ≡ true = grind (arith, nat_tests, paged) in
    ap (λ b. b && may_come t.site.stride ((a + i) / bytes t.site.width * bytes t.site.width)) first
    ∙ ap (may_come t.site.stride) (ap (λ b. (a + i) / b * b) as_wide ∙ whole width a i both.1 below) ∙ may in
    loaded-same width (bytes_worth g memory input) (λ x. byte_with_all g t.site input x t.stored (bytes_worth g t.before input x)) a
    (λ i below. is.holds input small (a + i) (at_site i below))
    ∙ all_is g t.site width as_wide bits a input both.1 there t.stored (bytes_worth g t.before input)

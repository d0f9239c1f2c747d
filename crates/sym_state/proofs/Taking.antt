-- What is loaded from where bits lead, from the bytes there.
use Rattle.std.proofs.Common.{◌≡◌, ℕ, ◌+◌, ◌*◌, ◌/◌, ◌%◌, ◌^◌, ◌<◌, Bool, true, List, [], map, refl, sym, ap, subst, ◌∙◌, arith}
use Rattle.std.specs.Prelude.{All, Result, Ok, Err, IfOk, Option, None, Some}
use Rattle.std.specs.Option.{option_map}
use Rattle.std.proofs.Math.Nat.{mod-lt}
use Rattle.std.proofs.lemmas.Nat.{pow_pos}
use Rattle.std.proofs.Math.Path.{fun_ext}
use Rattle.bv_dag.specs.Graphs.{Graph, number_of, width_of}
use Rattle.cow_pages.specs.SymbolicMemory.{SymbolicMemory, memory_byte}
use Rattle.cow_pages.specs.declared.byte.Byte.{Byte}
use Rattle.rv_decode.specs.declared.ops.LoadWidth.{LoadWidth}
use Rattle.rv_spec.specs.Machine as machine
use Rattle.rv_spec.specs.Memory.{half_at, word_at}
use Rattle.term_simplify.specs.Operations.{widened}
use Rattle.term_trees.specs.Growth.{Continues}
use Rattle.term_trees.specs.Trees.{tree_of}
use Rattle.sym_state.specs.Expressions.{Expression, Unknown, bit_expression, byte_expression, value_expression, widened_half, word_of}
use Rattle.sym_state.specs.Indexing.{index_of}
use Rattle.sym_state.specs.KeptUpdates.{IsUpdate, AreUpdates, KeptUpdates, update_expressed, list_expressed, updates_expressed}
use Rattle.sym_state.specs.Loading.{byte_along, byte_behind, is_place, loaded_along, or_zero, selected, way_by}
use Rattle.sym_state.specs.Loading as loading
use Rattle.sym_state.specs.Moves.{with_terms}
use Rattle.sym_state.specs.Placing.{HasBytes, bytes_expressed, bytes_worth}
use Rattle.sym_state.specs.Recalling.{Recalls, number_after_all}
use Rattle.sym_state.specs.Scattering.{AreWayBits}
use Rattle.sym_state.specs.Selecting.{AreBitsOf, IsWay, Loads, MakesLoaded, PushesBits, TakesByte, as_way, led, led_byte}
use Rattle.sym_state.specs.Storing.{stride_of, way_bits}
use Rattle.sym_state.specs.Symbolic.{Symbolic, IsFormed}
use Rattle.sym_state.specs.Updates.{loaded_after_all, loaded_from, loaded_on, site_of, updates_at}
use Rattle.sym_state.specs.Values.{GivesValue, bit_worth, byte_worth, worth_of}
use Rattle.sym_state.specs.declared.updates.Site.{Site}
use Rattle.sym_state.specs.declared.selecting.Place.{Place}
use Rattle.sym_state.specs.declared.ways.Stride.{Stride}
use Rattle.sym_state.specs.declared.ways.Way.{Way}
use Rattle.sym_state.specs.declared.value.Bit.{Bit}
use Rattle.sym_state.specs.declared.value.Value.{Value}
use Rattle.sym_state.proofs.Expressing.{byte_expression-grown, bytes_expressed-grown, expression-grown}
use Rattle.sym_state.proofs.Forms.{grows}
use Rattle.sym_state.proofs.Noted.{SameSite, found_is}
use Rattle.sym_state.proofs.Recalled.{recalled_is}
use Rattle.sym_state.proofs.Scattered.{as_way-grown}
use Rattle.sym_state.proofs.Updating.{AreUpdates-grown, map-same, update_expressed-grown, updates_at-expressed}
use Rattle.sym_state.proofs.Growing.{Continues-trans, IsByte-grown, byte_worth-grown, number-grown, worth-grown}
use Rattle.sym_state.proofs.Leading.{expressions-grown, led_to, reached-grown}

-- ---- More terms change nothing.
pub takes-kept : (g h k : Graph) (memory : SymbolicMemory) (place : Place) (by : ℕ) (bits : List Bit) (byte : Byte)
    → Continues h k → TakesByte g h memory place by bits byte → TakesByte g k memory place by bits byte
takes-kept g h k memory place by bits byte grown takes = record {
  continues = Continues-trans takes.continues grown;
  is_byte = IsByte-grown h k byte grown takes.is_byte;
  worth = λ input small here. byte_worth-grown h k input byte grown takes.is_byte ∙ takes.worth input small here;
  expression = byte_expression-grown h k byte grown takes.is_byte ∙ takes.expression;
}

led-grown : (g h : Graph) (place : Place) (bits : List Bit) (input : List ℕ) → Continues g h → AreBitsOf g bits
    → led h place bits input ≡ led g place bits input
led-grown g h place bits input grown are = reached-grown g h input place.scale bits place.start grown are

led_byte-grown : (g h : Graph) (memory : SymbolicMemory) (place : Place) (bits : List Bit) (by : ℕ) → Continues g h
    → AreBitsOf g bits → HasBytes g memory → led_byte h memory place bits by ≡ led_byte g memory place bits by
led_byte-grown g h memory place bits by grown are has =
    ap (λ (e : ℕ → Expression). or_zero (selected place.scale (byte_behind e place.width place.page by) (map (bit_expression h) bits) place.start))
    (bytes_expressed-grown g h memory grown has)
    ∙ ap (λ es. or_zero (selected place.scale (byte_behind (bytes_expressed g memory) place.width place.page by) es place.start))
    (expressions-grown g h bits grown are)

pub takes-before : (g h k : Graph) (memory : SymbolicMemory) (place : Place) (by : ℕ) (bits : List Bit) (byte : Byte)
    → Continues g h → AreBitsOf g bits → HasBytes g memory → TakesByte h k memory place by bits byte
    → TakesByte g k memory place by bits byte
takes-before g h k memory place by bits byte grown are has takes = record {
  continues = Continues-trans grown takes.continues;
  is_byte = takes.is_byte;
  worth = λ input small here.
      let same = led-grown g h place bits input grown are in
      takes.worth input small (ap (is_place place.width place.page) same ∙ here)
      ∙ ap (λ n. bytes_worth h memory input (n + by)) same
      ∙ byte_worth-grown g h input (memory_byte memory (led g place bits input + by)) grown (has (led g place bits input + by));
  expression = takes.expression ∙ led_byte-grown g h memory place bits by grown are has;
}

-- ---- Bytes in a register.
at_none : (n : ℕ) → n + 0 ≡ n
at_none n = omega arith

module _ (g k : Graph) (memory : SymbolicMemory) (place : Place) (bits : List Bit) where
  pub loads_half : {E : Type 0} (m : Graph) (r : Result Value E) (signed : Bool) (low high : Byte)
      → TakesByte g k memory place 0 bits low → TakesByte g k memory place 1 bits high
      → IfOk r (λ v. GivesValue k m v (λ input. widened signed 16 (byte_worth k input low + 2 ^ 8 * byte_worth k input high)))
      → IfOk r (λ v. value_expression m v ≡ widened_half signed (byte_expression k low) (byte_expression k high))
      → IfOk r (Loads g m memory place bits (λ byte address. widened signed 16 (half_at byte address))
      (λ byte address. widened_half signed (byte address) (byte (address + 1))))
  loads_half m (Err e) signed low high first second gives made = tt
  loads_half m (Ok v) signed low high first second gives made = record {
    continues = Continues-trans first.continues gives.continues;
    wide = gives.wide;
    worth = λ input small here.
        gives.worth input small
        ∙ ap (widened signed 16)
        (cc (first.worth input small here ∙ ap (bytes_worth g memory input) (at_none (led g place bits input)), second.worth input small here));
    expression = made ∙ cc (first.expression, second.expression);
  }

  pub loads_word : {E : Type 0} (m : Graph) (r : Result Value E) (b0 b1 b2 b3 : Byte)
      → TakesByte g k memory place 0 bits b0 → TakesByte g k memory place 1 bits b1
      → TakesByte g k memory place 2 bits b2 → TakesByte g k memory place 3 bits b3
      → IfOk r (λ v. GivesValue k m v (λ input. byte_worth k input b0 + 2 ^ 8 * byte_worth k input b1
      + 2 ^ 16 * byte_worth k input b2 + 2 ^ 24 * byte_worth k input b3))
      → IfOk r (λ v. value_expression m v
      ≡ word_of (byte_expression k b0) (byte_expression k b1) (byte_expression k b2) (byte_expression k b3))
      → IfOk r (Loads g m memory place bits (λ byte address. word_at byte address)
      (λ byte address. word_of (byte address) (byte (address + 1)) (byte (address + 2)) (byte (address + 3))))
  loads_word m (Err e) b0 b1 b2 b3 first second third fourth gives made = tt
  loads_word m (Ok v) b0 b1 b2 b3 first second third fourth gives made = record {
    continues = Continues-trans first.continues gives.continues;
    wide = gives.wide;
    worth = λ input small here.
        gives.worth input small
        ∙ cc (
          first.worth input small here ∙ ap (bytes_worth g memory input) (at_none (led g place bits input)),
          second.worth input small here,
          third.worth input small here,
          fourth.worth input small here,
        );
    expression = made ∙ cc (first.expression, second.expression, third.expression, fourth.expression);
  }

-- ---- From the address that a term is.
abbrev pub place_by : LoadWidth → (page : ℕ) → Way → Place
place_by width page way = record { width = width; page = page; start = way.start; scale = way.scale }

abbrev pub site_by : LoadWidth → (page : ℕ) → Stride → Site
site_by width page stride = record { page = page; width = width; stride = stride }

module _ (s : Symbolic) (h : Graph) (width : LoadWidth) (page term : ℕ) (way : Way) (bits : List Bit) (formed : IsFormed s)
    (is : IsWay s.terms width page term way) (pushed : PushesBits s.terms h [] bits way.term way.first way.count)
    (grown : Continues s.terms h) where
  abbrev place : Place
  place = place_by width page way

  abbrev way_there : loading.Way
  way_there = way_by (index_of (tree_of s.terms term)) width page (tree_of s.terms term)

  led_is : (input : List ℕ) → All (λ b. b < 256) input → is_place width page (number_of s.terms term input) ≡ true
      → led h place bits input ≡ number_of s.terms term input
  led_is input bytes here =
      led_to h input bits way.scale way.first way.count (number_of s.terms way.term input) way.start (number_of s.terms term input)
      (ap (map (bit_worth h input)) pushed.behind ∙ pushed.worth input bytes) is.room (is.leads input bytes here)

  -- from this memory
  module _ (m : SymbolicMemory) (has : HasBytes s.terms m) (k : Graph) (v : Value)
      (loads : Loads h k m (place_by width page way) bits (machine.loaded width) (loading.loaded width) v) where
    memory_is : (input : List ℕ) → bytes_worth h m input ≡ bytes_worth s.terms m input
    memory_is input = fun_ext (λ a. byte_worth-grown s.terms h input (memory_byte m a) grown (has a))

    byte_is : (by : ℕ) → led_byte h m place bits by ≡ byte_along (bytes_expressed s.terms m) width page way_there by
    byte_is by =
        ap (λ (e : ℕ → Expression). or_zero (selected way.scale (byte_behind e width page by) (map (bit_expression h) bits) way.start))
        (bytes_expressed-grown s.terms h m grown has)
        ∙ ap (λ es. or_zero (selected way.scale (byte_behind (bytes_expressed s.terms m) width page by) es way.start))
        (ap (map (bit_expression h)) pushed.behind ∙ pushed.expression)
        ∙ ap (λ x. byte_along (bytes_expressed s.terms m) width page x by) is.is

    before_worth : (input : List ℕ) → All (λ b. b < 256) input → is_place width page (number_of s.terms term input) ≡ true
        → worth_of k input v ≡ machine.loaded width (bytes_worth s.terms m input) (number_of s.terms term input)
    before_worth input bytes here =
        let same = led_is input bytes here in
        loads.worth input bytes (ap (is_place width page) same ∙ here)
        ∙ ap (machine.loaded width (bytes_worth h m input)) same
        ∙ ap (λ (b : ℕ → ℕ). machine.loaded width b (number_of s.terms term input)) (memory_is input)

    before_expressed : value_expression k v ≡ loaded_along width (bytes_expressed s.terms m) page way_there
    before_expressed = loads.expression ∙ ap (λ (b : ℕ → Expression). loading.loaded width b 0) (fun_ext byte_is)

  -- where it stands, as the code finds it
  module _ (stride : Stride) (led_by : stride ≡ stride_of (as_way s.terms way)) where
    abbrev site : Site
    site = site_by width page stride

    at : site_by width page stride ≡ site_of width page (as_way s.terms way)
    at = ap (site_by width page) led_by

    site_is : site_of width page way_there ≡ site
    site_is = ap (site_of width page) (sym is.is) ∙ sym at

    found_is_by : (o : Option KeptUpdates) → updates_at site s.updates ≡ o
        → loaded_on width (bytes_expressed s.terms s.memory) (updates_expressed s.terms s.updates) page (Unknown (tree_of s.terms term))
        ≡ loaded_from width (bytes_expressed s.terms s.memory) page way_there (option_map (list_expressed s.terms) o)
    found_is_by o found =
        ap (λ x. loaded_from width (bytes_expressed s.terms s.memory) page way_there (updates_at x (updates_expressed s.terms s.updates))) site_is
        ∙ ap (loaded_from width (bytes_expressed s.terms s.memory) page way_there)
        (updates_at-expressed s.terms site s.updates ∙ ap (option_map (list_expressed s.terms)) found)

    pub makes_loaded : {E : Type 0} (k : Graph) (r : Result Value E) → updates_at site s.updates ≡ None
        → IfOk r (Loads h k s.memory (place_by width page way) bits (machine.loaded width) (loading.loaded width))
        → IfOk r (MakesLoaded s (with_terms s k) width page term)
    makes_loaded k (Err e) none loads = tt
    makes_loaded k (Ok v) none loads = record {
      grown = grows s k formed (Continues-trans grown loads.continues);
      wide = loads.wide;
      worth = before_worth s.memory formed.memory k v loads;
      expression = before_expressed s.memory formed.memory k v loads ∙ sym (found_is_by None none);
    }

    -- from a list
    module _ (t : KeptUpdates) (found : updates_at site s.updates ≡ Some t) (k : Graph) (before : Value)
        (loads : Loads h k t.before (place_by width page way) bits (machine.loaded width) (loading.loaded width) before)
        (l : Graph) (more : Continues k l) (way_id : ℕ) (are : AreWayBits l way way_id) where
      pub list_is : SameSite t.site site × AreUpdates s.terms s.memory t
      list_is = found_is (AreUpdates s.terms s.memory) site t s.updates formed.updates found

      pub all : Continues s.terms l
      all = Continues-trans (Continues-trans grown loads.continues) more

      pub list_grown : AreUpdates l s.memory t
      list_grown = AreUpdates-grown s.terms l all s.memory t formed.memory list_is.1

      abbrev here_site : t.site.stride.count ≡ way.count
      here_site = list_is.0.count ∙ ap (λ (x : Site). x.stride.count) at

      pub bits_wide : width_of l way_id ≡ t.site.stride.count
      bits_wide = are.width ∙ sym here_site

      worth_there : (input : List ℕ) → All (λ b. b < 256) input → number_of l way_id input < 2 ^ t.site.stride.count
      worth_there input small =
          subst (λ n. n < 2 ^ t.site.stride.count) (sym (are.worth input small))
          (subst (λ c. number_of l way.term input / 2 ^ way.first % 2 ^ way.count < 2 ^ c) (sym here_site)
          (mod-lt (number_of l way.term input / 2 ^ way.first) (pow_pos way.count)))

      leads_there : (input : List ℕ) → All (λ b. b < 256) input → is_place width page (number_of s.terms term input) ≡ true
          → number_of s.terms term input ≡ t.site.stride.start + number_of l way_id input * 2 ^ t.site.stride.scale
      leads_there input small here =
          let start : t.site.stride.start ≡ way.start = list_is.0.start ∙ ap (λ (x : Site). x.stride.start) at in
          let scale : t.site.stride.scale ≡ way.scale = list_is.0.scale ∙ ap (λ (x : Site). x.stride.scale) at in
          let some = is.some in
          let within = is.within in
          sym (is.leads input small here)
          ∙ ap (λ n. way.start + n / 2 ^ way.first % 2 ^ way.count * 2 ^ way.scale)
          (sym (number-grown s.terms l way.term (width_of s.terms way.term) input all refl (omega (arith, some, within))))
          ∙ ap (λ n. way.start + n * 2 ^ way.scale) (sym (are.worth input small))
          ∙ ap (λ n. n + number_of l way_id input * 2 ^ way.scale) (sym start)
          ∙ ap (λ n. t.site.stride.start + number_of l way_id input * 2 ^ n) (sym scale)

      pub makes_recalled : {E : Type 0} (n : Graph) (r : Result Value E)
          → IfOk r (Recalls l n width way_id t.stored before)
          → IfOk r (MakesLoaded s (with_terms s n) width page term)
      makes_recalled n (Err e) recalls = tt
      makes_recalled n (Ok v) recalls = record {
        grown = grows s n formed (Continues-trans all recalls.continues);
        wide = recalls.wide;
        worth = λ input small here.
            let a = number_of s.terms term input in
            recalls.worth input small
            ∙ ap (number_after_all l width way_id input t.stored)
            (worth-grown k l input before more loads.wide
            ∙ before_worth t.before list_is.1.before k before loads input small here
            ∙ ap (λ (f : ℕ → ℕ). machine.loaded width f a)
            (fun_ext (λ x. sym (byte_worth-grown s.terms l input (memory_byte t.before x) all (list_is.1.before x)))))
            ∙ sym (recalled_is l s.memory t width page way_id a input list_grown
            (list_is.0.page ∙ ap (λ (x : Site). x.page) at) (list_is.0.wide ∙ ap (λ (x : Site). loading.bytes x.width) at)
            small (worth_there input small) here (leads_there input small here))
            ∙ ap (λ (f : ℕ → ℕ). machine.loaded width f a)
            (fun_ext (λ x. byte_worth-grown s.terms l input (memory_byte s.memory x) all (formed.memory x)));
        expression =
            recalls.expression
            ∙ ap (λ b. loaded_after_all width b (map (update_expressed l) t.stored) (value_expression l before))
            (are.tree ∙ ap way_bits (as_way-grown s.terms l way all (let some = is.some in let within = is.within in omega (arith, some, within)) ∙ is.is))
            ∙ ap (λ es. loaded_after_all width (way_bits way_there) es (value_expression l before))
            (map-same (IsUpdate s.terms t.site) (update_expressed l) (update_expressed s.terms) t.stored
            (update_expressed-grown s.terms l all t.site list_is.1.some) list_is.1.each)
            ∙ ap (loaded_after_all width (way_bits way_there) (map (update_expressed s.terms) t.stored))
            (expression-grown k l before more loads.wide ∙ before_expressed t.before list_is.1.before k before loads)
            ∙ sym (found_is_by (Some t) found);
      }

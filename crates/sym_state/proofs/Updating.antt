-- What stays of lists of updates: where terms are added, and where bytes beside them are written.
use Rattle.std.proofs.Common.{◌≡◌, ℕ, ◌+◌, ◌*◌, ◌/◌, ◌%◌, ◌^◌, ◌<◌, Bool, true, false, cond, not, List, [], ◌∷◌, map, refl, sym, ap, subst, ◌∙◌, arith}
use Rattle.std.specs.Prelude.{◌==◌, All, Some, filter, find, if◌then◌else◌}
use Rattle.std.specs.Option.{option_map}
use Rattle.std.proofs.lemmas.Bool.Decides.{nat_tests}
use Rattle.std.proofs.lemmas.List.Elements.{All-cons, All-filter, All-head, All-nil, All-tail, filter_passes}
use Rattle.bv_dag.specs.Graphs.{Graph, number_of}
use Rattle.cow_pages.specs.SymbolicMemory.{SymbolicMemory, memory_byte}
use Rattle.cow_pages.specs.declared.byte.Byte.{Byte}
use Rattle.term_trees.specs.Growth.{Continues}
use Rattle.sym_state.specs.Expressions.{Expression}
use Rattle.sym_state.specs.KeptUpdates.{IsUpdate, AreUpdates, KeptUpdates, byte_with, byte_with_all, update_expressed, list_expressed, updates_expressed}
use Rattle.sym_state.specs.Loading.{bytes}
use Rattle.sym_state.specs.Placing.{HasBytes, bytes_expressed, bytes_worth}
use Rattle.sym_state.specs.Updates.{Update, elsewhere, is_at, is_site, updates_at, without}
use Rattle.sym_state.specs.Values.{IsByte, byte_worth, worth_of}
use Rattle.sym_state.specs.declared.updates.Site.{Site}
use Rattle.sym_state.specs.declared.updates.Update as code
use Rattle.sym_state.proofs.Expressing.{bytes_expressed-grown, expression-grown, tree-kept}
use Rattle.sym_state.proofs.Growing.{IsWide-grown, byte_worth-grown, memory-grown, number-grown, width-kept, worth-grown}

-- ---- Lists under a function that keeps a test.
module _ {A B : Type 0} (f : A → B) (p : A → Bool) (q : B → Bool) (same : (x : A) → q (f x) ≡ p x) where
  find_by : (t : Bool) (x : A) (xs : List A) → find q (map f xs) ≡ option_map f (find p xs)
      → cond t (Some (f x)) (find q (map f xs)) ≡ option_map f (cond t (Some x) (find p xs))
  find_by true x xs others = refl
  find_by false x xs others = others

  pub find-map : (xs : List A) → find q (map f xs) ≡ option_map f (find p xs)
  find-map [] = refl
  find-map (x ∷ xs) = ap (λ t. cond t (Some (f x)) (find q (map f xs))) (same x) ∙ find_by (p x) x xs (find-map xs)

  filter_by : (t : Bool) (x : A) (xs : List A) → filter q (map f xs) ≡ map f (filter p xs)
      → cond t (f x ∷ filter q (map f xs)) (filter q (map f xs)) ≡ map f (cond t (x ∷ filter p xs) (filter p xs))
  filter_by true x xs others = ap (λ ys. f x ∷ ys) others
  filter_by false x xs others = others

  pub filter-map : (xs : List A) → filter q (map f xs) ≡ map f (filter p xs)
  filter-map [] = refl
  filter-map (x ∷ xs) = ap (λ t. cond t (f x ∷ filter q (map f xs)) (filter q (map f xs))) (same x) ∙ filter_by (p x) x xs (filter-map xs)

pub All-each : {A : Type 0} (P Q R : A → Type 0) (xs : List A) → ((x : A) → P x → Q x → R x) → All P xs → All Q xs → All R xs
All-each P Q R [] f all each = All-nil R
All-each P Q R (x ∷ xs) f all each =
    All-cons R x xs (f x (All-head P x xs all) (All-head Q x xs each)) (All-each P Q R xs f (All-tail P x xs all) (All-tail Q x xs each))

pub All-by : {A : Type 0} (P Q : A → Type 0) (xs : List A) → ((x : A) → P x → Q x) → All P xs → All Q xs
All-by P Q [] f all = All-nil Q
All-by P Q (x ∷ xs) f all = All-cons Q x xs (f x (All-head P x xs all)) (All-by P Q xs f (All-tail P x xs all))

pub map-same : {A B : Type 0} (P : A → Type 0) (f g : A → B) (xs : List A) → ((x : A) → P x → f x ≡ g x) → All P xs → map f xs ≡ map g xs
map-same P f g [] same all = refl
map-same P f g (x ∷ xs) same all = cc (same x (All-head P x xs all), map-same P f g xs same (All-tail P x xs all))

-- ---- Lists of updates as expressions.
pub updates_at-expressed : (g : Graph) (site : Site) (ts : List KeptUpdates)
    → updates_at site (updates_expressed g ts) ≡ option_map (list_expressed g) (updates_at site ts)
updates_at-expressed g site ts =
    find-map (list_expressed g) (λ t. is_site t.site site) (λ t. is_site t.site site) (λ t. refl) ts

pub without-expressed : (g : Graph) (address : ℕ) (ts : List KeptUpdates)
    → without address (updates_expressed g ts) ≡ updates_expressed g (without address ts)
without-expressed g address ts =
    filter-map (list_expressed g) (λ t. not (is_at t.site address)) (λ t. not (is_at t.site address)) (λ t. refl) ts

pub elsewhere-expressed : (g : Graph) (page : ℕ) (ts : List KeptUpdates)
    → elsewhere page (updates_expressed g ts) ≡ updates_expressed g (elsewhere page ts)
elsewhere-expressed g page ts =
    filter-map (list_expressed g) (λ t. not (t.site.page == page)) (λ t. not (t.site.page == page)) (λ t. refl) ts

-- ---- More terms change no list.
module _ (g h : Graph) (grown : Continues g h) where
  module _ (site : Site) (some : 0 < site.stride.count) where
    pub IsUpdate-grown : (one : code.Update) → IsUpdate g site one → IsUpdate h site one
    IsUpdate-grown one is = record {
      bits = width-kept g h one.bits site.stride.count grown is.bits some;
      wide = IsWide-grown g h one.value grown is.wide;
    }

    pub update_expressed-grown : (one : code.Update) → IsUpdate g site one → update_expressed h one ≡ update_expressed g one
    update_expressed-grown one is =
        cc (tree-kept g h one.bits site.stride.count grown is.bits some, expression-grown g h one.value grown is.wide)

    byte_with-grown : (input : List ℕ) (address : ℕ) (one : code.Update) (n : ℕ) → IsUpdate g site one
        → byte_with h site input address one n ≡ byte_with g site input address one n
    byte_with-grown input address one n is =
        ap (λ k. if address / bytes site.width * bytes site.width == site.stride.start + k * 2 ^ site.stride.scale
        then worth_of h input one.value / 2 ^ (8 * (address % bytes site.width)) % 2 ^ 8 else n)
        (number-grown g h one.bits site.stride.count input grown is.bits some)
        ∙ ap (λ v. if address / bytes site.width * bytes site.width == site.stride.start + number_of g one.bits input * 2 ^ site.stride.scale
        then v / 2 ^ (8 * (address % bytes site.width)) % 2 ^ 8 else n)
        (worth-grown g h input one.value grown is.wide)

    pub byte_with_all-grown : (input : List ℕ) (address : ℕ) (stored : List code.Update) (n : ℕ) → All (IsUpdate g site) stored
        → byte_with_all h site input address stored n ≡ byte_with_all g site input address stored n
    byte_with_all-grown input address [] n each = refl
    byte_with_all-grown input address (one ∷ others) n each =
        ap (byte_with_all h site input address others) (byte_with-grown input address one n (All-head (IsUpdate g site) one others each))
        ∙ byte_with_all-grown input address others (byte_with g site input address one n) (All-tail (IsUpdate g site) one others each)

  pub list_expressed-grown : (m : SymbolicMemory) (t : KeptUpdates) → AreUpdates g m t → list_expressed h t ≡ list_expressed g t
  list_expressed-grown m t is =
      ap (λ (f : ℕ → Expression). record { site = t.site; before = f; stored = map (update_expressed h) t.stored })
      (bytes_expressed-grown g h t.before grown is.before)
      ∙ ap (λ (es : List Update). record { site = t.site; before = bytes_expressed g t.before; stored = es })
      (map-same (IsUpdate g t.site) (update_expressed h) (update_expressed g) t.stored (update_expressed-grown t.site is.some) is.each)

  pub updates_expressed-grown : (m : SymbolicMemory) (ts : List KeptUpdates) → All (AreUpdates g m) ts → updates_expressed h ts ≡ updates_expressed g ts
  updates_expressed-grown m ts all = map-same (AreUpdates g m) (list_expressed h) (list_expressed g) ts (list_expressed-grown m) all

  pub AreUpdates-grown : (m : SymbolicMemory) (t : KeptUpdates) → HasBytes g m → AreUpdates g m t → AreUpdates h m t
  AreUpdates-grown m t has is = record {
    some = is.some;
    short = is.short;
    before = memory-grown g h t.before grown is.before;
    each = All-by (IsUpdate g t.site) (IsUpdate h t.site) t.stored (IsUpdate-grown t.site is.some) is.each;
    holds = λ input small a at.
        byte_worth-grown g h input (memory_byte m a) grown (has a) ∙ is.holds input small a at
        ∙ sym (byte_with_all-grown t.site is.some input a t.stored (bytes_worth g t.before input a) is.each)
        ∙ ap (byte_with_all h t.site input a t.stored) (sym (byte_worth-grown g h input (memory_byte t.before a) grown (is.before a)));
  }

  pub updates-grown : (m : SymbolicMemory) (ts : List KeptUpdates) → HasBytes g m → All (AreUpdates g m) ts → All (AreUpdates h m) ts
  updates-grown m ts has all = All-by (AreUpdates g m) (AreUpdates h m) ts (λ t. AreUpdates-grown m t has) all

-- ---- A byte beside a list changes nothing of it.
not_true : (t : Bool) → not t ≡ true → t ≡ false
not_true true is = cc is
not_true false is = refl

module _ (g : Graph) (m o : SymbolicMemory) (address : ℕ) (byte : Byte)
    (bytes_are : (at : ℕ) → memory_byte o at ≡ (if at == address then byte else memory_byte m at)) where
  byte_by : (a : ℕ) (here : Bool) → IsByte g byte → IsByte g (memory_byte m a) → IsByte g (if here then byte else memory_byte m a)
  byte_by a true is old = is
  byte_by a false is old = old

  pub bytes-beside : HasBytes g m → IsByte g byte → HasBytes g o
  bytes-beside has is a = subst (IsByte g) (sym (bytes_are a)) (byte_by a (a == address) is (has a))

  beside_by : (t : KeptUpdates) (a : ℕ) (here : Bool) → (a == address) ≡ here → is_at t.site a ≡ true → not (is_at t.site address) ≡ true
      → (if here then byte else memory_byte m a) ≡ memory_byte m a
  beside_by t a true is at other =
      let same : a ≡ address = grind (arith, nat_tests, is) in
      cc (ap (is_at t.site) same, at, not_true (is_at t.site address) other)
  beside_by t a false is at other = refl

  AreUpdates-beside : (t : KeptUpdates) → AreUpdates g m t → not (is_at t.site address) ≡ true → AreUpdates g o t
  AreUpdates-beside t is other = record {
    some = is.some;
    short = is.short;
    before = is.before;
    each = is.each;
    holds = λ input small a at.
        ap (byte_worth g input) (bytes_are a ∙ beside_by t a (a == address) refl at other) ∙ is.holds input small a at;
  }

  pub updates-beside : (ts : List KeptUpdates) → All (AreUpdates g m) ts → All (AreUpdates g o) (without address ts)
  updates-beside ts all =
      let kept : KeptUpdates → Bool = λ t. not (is_at t.site address) in
      All-each (AreUpdates g m) (λ t. kept t ≡ true) (AreUpdates g o) (without address ts) AreUpdates-beside
      (All-filter kept (AreUpdates g m) ts all) (filter_passes kept ts)

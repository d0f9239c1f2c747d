-- Lists of updates after a store by a term.
use Rattle.std.proofs.Common.{◌≡◌, ◌≢◌, ℕ, ◌+◌, ◌*◌, ◌/◌, ◌%◌, ◌^◌, ◌<◌, ◌≤◌, ◌&&◌, Bool, true, false, not, List, [], ◌∷◌, ◌++◌, get_or, length, take, refl, sym, ap, subst, ◌∙◌, arith}
use Rattle.std.specs.Prelude.{◌==◌, All, Option, None, Some, cond, if◌then◌else◌, nat_lt}
use Rattle.std.specs.Option.{option_map}
use Rattle.std.proofs.lemmas.Bool.{and_parts}
use Rattle.std.proofs.lemmas.Bool.Decides.{nat_tests}
use Rattle.std.proofs.lemmas.List.{length-map, map-append}
use Rattle.std.proofs.lemmas.List.Elements.{All-append, All-cons, All-filter, All-head, All-nil, All-tail, filter-append, filter_passes}
use Rattle.std.proofs.lemmas.Grind.{take_at_read}
use Rattle.bv_dag.specs.Graphs.{Graph, number_of}
use Rattle.cow_pages.specs.SymbolicMemory.{SymbolicMemory}
use Rattle.sym_state.specs.KeptUpdates.{IsUpdate, AreUpdates, KeptUpdates, byte_with, byte_with_all, update_expressed, list_expressed, updates_expressed}
use Rattle.sym_state.specs.Loading.{bytes}
use Rattle.sym_state.specs.Placing.{HasBytes, bytes_expressed, bytes_worth}
use Rattle.sym_state.specs.Updates.{begun, elsewhere, is_at, is_site, is_stride, updates_at, updates_with, with_update}
use Rattle.sym_state.specs.Values.{worth_of}
use Rattle.sym_state.specs.declared.updates.Site.{Site}
use Rattle.sym_state.specs.declared.updates.Update as code
use Rattle.sym_state.proofs.Updating.{All-each, elsewhere-expressed, updates_at-expressed}

-- ---- As expressions.
begun-by : (g : Graph) (site : Site) (m : SymbolicMemory) (t : KeptUpdates) (b : Bool)
    → list_expressed g (if b then t else record { site = site; before = m; stored = [] })
    ≡ (if b then list_expressed g t else record { site = site; before = bytes_expressed g m; stored = [] })
begun-by g site m t true = refl
begun-by g site m t false = refl

begun-expressed : (g : Graph) (site : Site) (m : SymbolicMemory) (o : Option KeptUpdates)
    → list_expressed g (begun site m o) ≡ begun site (bytes_expressed g m) (option_map (list_expressed g) o)
begun-expressed g site m None = refl
begun-expressed g site m (Some t) =
    begun-by g site m t (nat_lt (length t.stored) (2 ^ t.site.stride.count))
    ∙ ap (λ n. if nat_lt n (2 ^ t.site.stride.count) then list_expressed g t else record { site = site; before = bytes_expressed g m; stored = [] })
    (sym (length-map t.stored (update_expressed g)))

pub updates_with-expressed : (g : Graph) (site : Site) (m : SymbolicMemory) (one : code.Update) (ts : List KeptUpdates)
    → updates_expressed g (updates_with site m one ts)
    ≡ updates_with site (bytes_expressed g m) (update_expressed g one) (updates_expressed g ts)
updates_with-expressed g site m one ts =
    let own = begun site m (updates_at site ts) in
    map-append (list_expressed g) (elsewhere site.page ts) (with_update own one ∷ [])
    ∙ cc (
      sym (elsewhere-expressed g site.page ts),
      map-append (update_expressed g) own.stored (one ∷ []),
      begun-expressed g site m (updates_at site ts),
      updates_at-expressed g site ts,
    )

-- ---- Where it stands.
pub record SameSite (a b : Site) : Type 0 where
  pub page : a.page ≡ b.page
  pub wide : bytes a.width ≡ bytes b.width
  pub start : a.stride.start ≡ b.stride.start
  pub count : a.stride.count ≡ b.stride.count
  pub scale : a.stride.scale ≡ b.stride.scale

pub same_site : (a b : Site) → is_site a b ≡ true → SameSite a b
same_site a b is =
    let p = and_parts (a.page == b.page) ((bytes a.width == bytes b.width) && is_stride a.stride b.stride) is in
    let w = and_parts (bytes a.width == bytes b.width) (is_stride a.stride b.stride) p.1 in
    let s = and_parts (a.stride.start == b.stride.start) ((a.stride.count == b.stride.count) && (a.stride.scale == b.stride.scale)) w.1 in
    let c = and_parts (a.stride.count == b.stride.count) (a.stride.scale == b.stride.scale) s.1 in
    record {
      page = let t = p.0 in grind (arith, nat_tests, t);
      wide = let t = w.0 in grind (arith, nat_tests, t);
      start = let t = s.0 in grind (arith, nat_tests, t);
      count = let t = c.0 in grind (arith, nat_tests, t);
      scale = let t = c.1 in grind (arith, nat_tests, t);
    }

-- the list that is found is there, and is one of these
found_by : (P : KeptUpdates → Type 0) (site : Site) (t u : KeptUpdates) (ts : List KeptUpdates) (b : Bool) → is_site t.site site ≡ b
    → P t → (updates_at site ts ≡ Some u → SameSite u.site site × P u)
    → cond b (Some t) (updates_at site ts) ≡ Some u → SameSite u.site site × P u
found_by P site t u ts true is has others found =
    let here : t ≡ u = cc found in
    subst (λ x. SameSite x.site site × P x) here (same_site t.site site is, has)
found_by P site t u ts false is has others found = others found

pub found_is : (P : KeptUpdates → Type 0) (site : Site) (u : KeptUpdates) (ts : List KeptUpdates) → All P ts → updates_at site ts ≡ Some u
    → SameSite u.site site × P u
found_is P site u [] all found = cc found
found_is P site u (t ∷ ts) all found =
    found_by P site t u ts (is_site t.site site) refl (All-head P t ts all) (found_is P site u ts (All-tail P t ts all)) found

-- ---- The list that a store goes on with.
pub record Begins (g : Graph) (m : SymbolicMemory) (site : Site) (t : KeptUpdates) : Type 0 where
  pub same : SameSite t.site site
  pub is : AreUpdates g m t

module _ (g : Graph) (m : SymbolicMemory) (site : Site) (some : 0 < site.stride.count)
    (short : site.stride.scale + site.stride.count ≤ 31) (has : HasBytes g m) where
  begins_new : Begins g m site (record { site = site; before = m; stored = [] })
  begins_new = record {
    same = record { page = refl; wide = refl; start = refl; count = refl; scale = refl };
    is = record {
      some = some;
      short = short;
      before = has;
      each = All-nil (IsUpdate g site);
      holds = λ input small address at. refl;
    };
  }

  begins_by : (t : KeptUpdates) (b : Bool) → Begins g m site t
      → Begins g m site (if b then t else record { site = site; before = m; stored = [] })
  begins_by t true old = old
  begins_by t false old = begins_new

  begins_at : (ts : List KeptUpdates) (o : Option KeptUpdates) → All (AreUpdates g m) ts → updates_at site ts ≡ o → Begins g m site (begun site m o)
  begins_at ts None all is = begins_new
  begins_at ts (Some t) all is =
      let found = found_is (AreUpdates g m) site t ts all is in
      begins_by t (nat_lt (length t.stored) (2 ^ t.site.stride.count)) (record { same = found.0; is = found.1 })

  pub begins : (ts : List KeptUpdates) → All (AreUpdates g m) ts → Begins g m site (begun site m (updates_at site ts))
  begins ts all = begins_at ts (updates_at site ts) all refl

-- ---- Memory as the store makes it.
-- one store more
byte_with_more : (g : Graph) (site : Site) (input : List ℕ) (address : ℕ) (stored : List code.Update) (one : code.Update) (n : ℕ)
    → byte_with_all g site input address (stored ++ one ∷ []) n
    ≡ byte_with g site input address one (byte_with_all g site input address stored n)
byte_with_more g site input address [] one n = refl
byte_with_more g site input address (other ∷ others) one n =
    byte_with_more g site input address others one (byte_with g site input address other n)

module _ (g : Graph) (m o : SymbolicMemory) (site : Site) (one : code.Update)
    (elsewhere_is : (input : List ℕ) → All (λ b. b < 256) input → (a : ℕ) → a / 256 ≢ site.page
    → bytes_worth g o input a ≡ bytes_worth g m input a)
    (here_is : (input : List ℕ) → All (λ b. b < 256) input → (a : ℕ) → a / 256 ≡ site.page
    → bytes_worth g o input a ≡ byte_with g site input a one (bytes_worth g m input a)) where
  page_of_at : (s : Site) (a : ℕ) → is_at s a ≡ true → a / 256 ≡ s.page
  page_of_at s a at =
      let first = (and_parts (a / 256 == s.page) _ at).0 in grind (arith, nat_tests, first)

  other_page : (p q : ℕ) → not (p == q) ≡ true → p ≢ q
  other_page p q is = grind (arith, nat_tests, is)

  AreUpdates-elsewhere : (t : KeptUpdates) → AreUpdates g m t → not (t.site.page == site.page) ≡ true → AreUpdates g o t
  AreUpdates-elsewhere t is other = record {
    some = is.some;
    short = is.short;
    before = is.before;
    each = is.each;
    holds = λ input small a at.
        elsewhere_is input small a (λ on. other_page t.site.page site.page other (sym (page_of_at t.site a at) ∙ on))
        ∙ is.holds input small a at;
  }

  with_site : (s : Site) (input : List ℕ) (a n : ℕ) → SameSite s site → byte_with g site input a one n ≡ byte_with g s input a one n
  with_site s input a n same =
      let wide = same.wide in
      let start = same.start in
      let scale = same.scale in
      ap (λ b. if a / b * b == site.stride.start + number_of g one.bits input * 2 ^ site.stride.scale
      then worth_of g input one.value / 2 ^ (8 * (a % b)) % 2 ^ 8 else n) (sym wide)
      ∙ ap (λ b. if a / bytes s.width * bytes s.width == b + number_of g one.bits input * 2 ^ site.stride.scale
      then worth_of g input one.value / 2 ^ (8 * (a % bytes s.width)) % 2 ^ 8 else n) (sym start)
      ∙ ap (λ b. if a / bytes s.width * bytes s.width == s.stride.start + number_of g one.bits input * 2 ^ b
      then worth_of g input one.value / 2 ^ (8 * (a % bytes s.width)) % 2 ^ 8 else n) (sym scale)

  AreUpdates-more : (t : KeptUpdates) → IsUpdate g site one → Begins g m site t → AreUpdates g o (with_update t one)
  AreUpdates-more t stored begin =
      let is = begin.is in
      record {
        some = is.some;
        short = is.short;
        before = is.before;
        each = All-append (IsUpdate g t.site) t.stored (one ∷ []) is.each
            (All-cons (IsUpdate g t.site) one [] (record { bits = stored.bits ∙ sym begin.same.count; wide = stored.wide }) (All-nil (IsUpdate g t.site)));
        holds = λ input small a at.
            here_is input small a (page_of_at t.site a at ∙ begin.same.page)
            ∙ with_site t.site input a (bytes_worth g m input a) begin.same
            ∙ ap (byte_with g t.site input a one) (is.holds input small a at)
            ∙ sym (byte_with_more g t.site input a t.stored one (bytes_worth g t.before input a));
      }

  pub updates_noted : (ts : List KeptUpdates) → 0 < site.stride.count → site.stride.scale + site.stride.count ≤ 31 → HasBytes g m
      → IsUpdate g site one → All (AreUpdates g m) ts → All (AreUpdates g o) (updates_with site m one ts)
  updates_noted ts some short has stored all =
      let kept : KeptUpdates → Bool = λ t. not (t.site.page == site.page) in
      let own = begun site m (updates_at site ts) in
      All-append (AreUpdates g o) (elsewhere site.page ts) (with_update own one ∷ [])
      (All-each (AreUpdates g m) (λ t. kept t ≡ true) (AreUpdates g o) (elsewhere site.page ts) AreUpdates-elsewhere
      (All-filter kept (AreUpdates g m) ts all) (filter_passes kept ts))
      (All-cons (AreUpdates g o) (with_update own one) [] (AreUpdates-more own stored (begins g m site some short has ts all)) (All-nil (AreUpdates g o)))

-- ---- One by one.
pub elsewhere_more : (page i : ℕ) (xs others : List KeptUpdates) (x : KeptUpdates) → i < length xs → x ≡ get_or xs i x
    → others ≡ elsewhere page (take i xs) → others ++ elsewhere page (x ∷ []) ≡ elsewhere page (take (i + 1) xs)
elsewhere_more page i xs others x below is done =
    let kept : KeptUpdates → Bool = λ t. not (t.site.page == page) in
    ap (λ ys. ys ++ elsewhere page (x ∷ [])) done
    ∙ sym (filter-append kept (take i xs) (x ∷ []))
    ∙ ap (elsewhere page) (ap (λ y. take i xs ++ y ∷ []) is ∙ sym (take_at_read xs i x below).1)

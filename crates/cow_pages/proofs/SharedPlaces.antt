-- The places of a group whose pages stand behind counted references.
use Rattle.std.proofs.Common.{◌≡◌, ℕ, zero, suc, ◌+◌, ◌<◌, List, [], ◌∷◌, ◌++◌, length, get_or, take, set, None, refl, ap, sym, ◌∙◌, arith}
use Rattle.std.specs.Prelude.{Option}
use Rattle.std.proofs.lemmas.List.{length-map, map-append, map-set, take_more, get_or-map}
use Rattle.cow_pages.specs.SymbolicMemory.{SymbolicPage}
use Rattle.cow_pages.specs.Groups.{Places, page_at_place, shared_page, shared_places, PageRef}

-- a page is put to a place
pub shared_places-set : (pages : List PageRef) (i : ℕ) (p : PageRef)
    → shared_places (set pages i p) ≡ set (shared_places pages) i (shared_page p)
shared_places-set pages i p = map-set shared_page pages i p

-- what is put to a place that has it already changes nothing
pub set_there : {X : Type 0} (xs : List X) (i : ℕ) (d : X) → set xs i (get_or xs i d) ≡ xs
set_there [] i d = refl
set_there (x ∷ xs) zero d = refl
set_there (x ∷ xs) (suc i) d = ap (λ zs. x ∷ zs) (set_there xs i d)

-- what is read at a place
pub at_shared_place : (pages : List PageRef) (i : ℕ) (p : PageRef) → i < length pages → p ≡ get_or pages i p
    → page_at_place (shared_places pages) i ≡ shared_page p
at_shared_place pages i p h read =
    get_or-map shared_page pages i p None h
    ∙ ap shared_page (sym read)

-- one more place is copied
pub shared_places_more : (done all : List PageRef) (i : ℕ) (p copy : PageRef)
    → shared_places done ≡ take i (shared_places all) → i < length all → shared_page copy ≡ shared_page p
    → p ≡ get_or all i p → shared_places (done ++ copy ∷ []) ≡ take (i + 1) (shared_places all)
shared_places_more done all i p copy kept h same read =
    map-append shared_page done (copy ∷ [])
    ∙ ap (λ (ps : Places). ps ++ shared_page copy ∷ []) kept
    ∙ ap (λ (q : Option SymbolicPage). take i (shared_places all) ++ q ∷ []) (same ∙ sym (at_shared_place all i p h read))
    ∙ sym (take_more (shared_places all) i None (omega (arith, h, length-map all shared_page)))

-- a page is put to a place that depends on the one there
pub place_changed : (pages : List PageRef) (old : Places) (i : ℕ) (p new : PageRef) (change : Option SymbolicPage → Option SymbolicPage)
    → shared_places pages ≡ old → i < length pages → p ≡ get_or pages i p
    → shared_page new ≡ change (shared_page p)
    → shared_places (set pages i new) ≡ set old i (change (page_at_place old i))
place_changed pages old i p new change view h read is =
    shared_places-set pages i new
    ∙ ap (λ (q : Option SymbolicPage). set (shared_places pages) i q) (is ∙ ap change (sym (at_shared_place pages i p h read)))
    ∙ ap (λ (ps : Places). set ps i (change (page_at_place ps i))) view

-- one that shows the same there changes nothing
pub place_kept : (pages : List PageRef) (old : Places) (i : ℕ) (p new : PageRef) → shared_places pages ≡ old
    → i < length pages → p ≡ get_or pages i p → shared_page new ≡ shared_page p
    → shared_places (set pages i new) ≡ old
place_kept pages old i p new view h read is =
    place_changed pages old i p new (λ q. q) view h read is ∙ set_there old i None

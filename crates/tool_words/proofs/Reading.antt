-- Reading the regions in turn.
use Rattle.std.proofs.Common.{ℕ, zero, suc, List, [], ◌∷◌, ◌++◌, ◌≡◌, ◌<◌, ◌≤◌, ◌+◌, length, drop, map, Option, Some, None, refl, ap, arith, option_map, slice_index_or, append-nil, append_assoc}
use Rattle.std.proofs.Math.ListN.{drop_of_length-le}
use Rattle.std.specs.Borrow.{Bor}
use Rattle.elf_load.specs.declared.region.Region.{Region}
use Rattle.elf_load.specs.Regions.{put_first}
use Rattle.tool_words.specs.Region.{region_said, regions_said}

-- what the words name
abbrev pub named : List (Bor (List ℕ)) → Option (List Region)
named words = regions_said (map (λ word. word.now) words)

-- the regions read so far, before what the other words name
abbrev pub after : List Region → Option (List Region) → Option (List Region)
after seen = option_map (λ rest. seen ++ rest)

named_from : (words : List (Bor (List ℕ))) (i : ℕ) (d : Bor (List ℕ)) → i < length words
    → named (drop i words) ≡ put_first (region_said (slice_index_or words i d).now) (named (drop (suc i) words))
unfolding regions_said
named_from [] i d lt = absurd (omega arith)
named_from (word ∷ words) zero d lt = refl
named_from (word ∷ words) (suc i) d lt = named_from words i d (omega arith)

after_put : (seen : List Region) (region : Region) (rest : Option (List Region))
    → after (seen ++ region ∷ []) rest ≡ after seen (put_first (Some region) rest)
after_put seen region None = refl
after_put seen region (Some rest) = ap Some (append_assoc seen (region ∷ []) rest)

pub one_more : (words : List (Bor (List ℕ))) (i : ℕ) (word : Bor (List ℕ)) (seen : List Region) (region : Region) → i < length words
    → region_said (slice_index_or words i word).now ≡ Some region
    → after (seen ++ region ∷ []) (named (drop (i + 1) words)) ≡ after seen (named (drop i words))
one_more words i word seen region lt is =
    let next : i + 1 ≡ suc i = omega arith in
    rw (next, named_from words i word lt, is) (after_put seen region (named (drop (suc i) words)))

pub none_more : (words : List (Bor (List ℕ))) (i : ℕ) (word : Bor (List ℕ)) (seen : List Region) → i < length words
    → region_said (slice_index_or words i word).now ≡ None → after seen (named (drop i words)) ≡ None
none_more words i word seen lt is = rw (named_from words i word lt, is) refl

pub all_read : (words : List (Bor (List ℕ))) (i : ℕ) (seen : List Region) → length words ≤ i
    → after seen (named (drop i words)) ≡ Some seen
unfolding regions_said
all_read words i seen over =
    let none : drop i words ≡ [] = drop_of_length-le words over in
    rw none (ap Some (append-nil seen))

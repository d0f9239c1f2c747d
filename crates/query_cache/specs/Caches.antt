-- What a cache keeps, and what it answers.
use Rattle.std.specs.Prelude.{◌≡◌, List, All, Contains, Option, None, Some, ◌⊎◌}
use Rattle.bv_dag.specs.Comparing.{condition_eq}
use Rattle.bv_dag.specs.Queries.{Condition}
use Rattle.lru.specs.LruCache.{LruCache, lru_cache, put_entries}
use Rattle.term_trees.specs.Subsets.{AsksNoMore}
use Rattle.query_cache.specs.Answers.{IsAnswer, Answered}
use Rattle.query_cache.specs.declared.satisfiability.Satisfiability.{Satisfiability}
use Rattle.query_cache.specs.declared.satisfiability.Satisfiability.TheVariants.{Sat, Unsat}
use Rattle.query_cache.specs.declared.shard.TheConstants.{MOST_KEPT}

-- entries: queries, each with its answer
abbrev pub KeptAnswers : Type 0
KeptAnswers = List (Condition × Satisfiability)

-- what a shard keeps: so many entries at most, the most recently used first, each of which is true
pub record IsShard (kept : LruCache Condition Satisfiability) : Type 0 where
  pub cap : kept.cap ≡ MOST_KEPT
  pub right : All (λ e. IsAnswer e.0 e.1) kept.entries

-- what is kept once a query is put with its answer
abbrev pub kept_after : KeptAnswers → Answered → KeptAnswers
kept_after kept s = put_entries condition_eq (lru_cache kept MOST_KEPT) s.query s.answer

-- A query is answered by the answer to another one: where no bytes meet one that asks no more, and
-- where some meet one that asks no less.
abbrev pub IsAnsweredBy : (asked kept : Condition) → Satisfiability → Type 0
IsAnsweredBy asked kept (Sat input) = AsksNoMore asked kept
IsAnsweredBy asked kept Unsat = AsksNoMore kept asked

-- an entry answers a query: it is of that query, or of one whose answer serves
abbrev pub Serves : (asked : Condition) → Condition × Satisfiability → Type 0
Serves asked entry = (entry.0 ≡ asked) ⊎ IsAnsweredBy asked entry.0 entry.1

-- an entry among these that answers a query, or none where none does
abbrev pub IsServing : KeptAnswers → (asked : Condition) → Option (Condition × Satisfiability)
    → Type 0
IsServing kept asked None = All (λ entry. Serves asked entry → ⊥) kept
IsServing kept asked (Some entry) = Contains kept entry × Serves asked entry

-- what is found among entries: none where none serves, and else the answer of one that does, which
-- is true of the query
abbrev pub IsFound : KeptAnswers → (asked : Condition) → Option Satisfiability → Type 0
IsFound kept asked None = All (λ entry. Serves asked entry → ⊥) kept
IsFound kept asked (Some answer) = IsAnswer asked answer
    × ((entry : Condition × Satisfiability) × Contains kept entry × Serves asked entry
    × (entry.1 ≡ answer))

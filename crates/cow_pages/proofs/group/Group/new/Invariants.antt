use Rattle.std.proofs.Common.{◌≡◌, ℕ, length, None}
use Rattle.cow_pages.specs.Groups.{page_at_place, shared_places}
use Rattle.cow_pages.proofs.group.Group.new.Given as goal

abbrev pub invariant-loop-place : goal.invariant-loop-place
invariant-loop-place l = record { size : length l.pages.items ≡ l._place; empty : (place : ℕ) → page_at_place (shared_places l.pages.items) place ≡ None }

-- Input bytes that asserted terms lead to.
use Rattle.std.proofs.Common.{◌≡◌, ℕ, ◌<◌, List, Option, Some, None, sym, subst}
use Rattle.std.specs.Prelude.{Contains}
use Rattle.bv_dag.specs.Inputs.{inputs_under}
use Rattle.bv_dag.specs.Queries.{Condition}
use Rattle.query_slice.specs.Classes.{IsLinked, here, over, first_of}
use Rattle.query_slice.specs.Reaching.{IsReached, itself, sharing}
use Rattle.query_slice.proofs.Firsts.{first_is_there}
use Rattle.query_slice.proofs.Joining.{AreRelated, IsBelow}

pub linked_in_row : (q : Condition) (a b c : ℕ) → IsLinked q a b → IsLinked q b c → IsLinked q a c
linked_in_row q a b c l here = l
linked_in_row q a b c l (over {i = i} term m asserted i_under c_under) = over term (linked_in_row q a b i l m) asserted i_under c_under

pub linked_turned : (q : Condition) (a c : ℕ) → IsLinked q a c → IsLinked q c a
linked_turned q a c here = here
linked_turned q a c (over {i = i} term m asserted i_under c_under) = linked_in_row q c i a (over term here asserted c_under i_under) (linked_turned q a i m)

-- what a byte under a reached term leads to stands under a reached term
pub reached_by_link : (q : Condition) (new start k : ℕ) → Contains (inputs_under q.graph new) start → IsLinked q start k → (t : ℕ) × IsReached q new t × Contains (inputs_under q.graph t) k
reached_by_link q new start k under here = (new, itself, under)
reached_by_link q new start k under (over {i = i} term link asserted i_under k_under) =
    let before = reached_by_link q new start i under link in
    (term, sharing before.1 asserted (i, before.2, i_under), k_under)

-- the first bytes of two lists
pub related_firsts : (R : ℕ → ℕ → Type 0) (us vs : List ℕ) (o p : Option ℕ) → o ≡ first_of us → p ≡ first_of vs → ((i k : ℕ) → Contains us i → Contains vs k → R i k) → AreRelated R o p
related_firsts R us vs None p e h all = tt
related_firsts R us vs (Some i) None e h all = tt
related_firsts R us vs (Some i) (Some k) e h all = all i k (first_is_there us i (sym e)) (first_is_there vs k (sym h))

pub related_at : (R : ℕ → ℕ → Type 0) (o p : Option ℕ) (i k : ℕ) → o ≡ Some i → p ≡ Some k → AreRelated R o p → R i k
related_at R o p i k e h r = subst (λ x. AreRelated R (Some i) x) h (subst (λ x. AreRelated R x p) e r)

pub first_below : (n : ℕ) (us : List ℕ) (o : Option ℕ) → o ≡ first_of us → ((i : ℕ) → Contains us i → i < n) → IsBelow n o
first_below n us None e all = tt
first_below n us (Some i) e all = all i (first_is_there us i (sym e))

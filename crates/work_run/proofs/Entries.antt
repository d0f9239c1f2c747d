-- What a worker does to the tree in one turn.
use Rattle.std.proofs.Common.{◌≡◌, ℕ, Bool, true, false, inl, inr, refl, sym, ◌∙◌, subst}
use Rattle.std.specs.Prelude.{Result, Ok, Err, IfOk, OnErr}
use Rattle.std.specs.Global.{Vec}
use Rattle.tree_core.specs.Replays.{kept, with_event}
use Rattle.tree_core.specs.Stories.{Story}
use Rattle.tree_core.specs.declared.event.Event.{Event}
use Rattle.tree_core.specs.declared.event.Kid.{Kid}
use Rattle.fork_spec.specs.Histories.{is_release}
use Rattle.fork_tree.specs.Calls.{IsClaim, IsEntered, claim_event, cut_event, finish_event, release_event, split_event}
use Rattle.fork_tree.specs.Drains.{GrowsBy}
use Rattle.fork_tree.specs.declared.content.Content.{Content}
use Rattle.fork_tree.specs.declared.tree.Claim.{Claim}
use Rattle.fork_tree.specs.declared.tree.Claim.TheVariants.{Claimed, Nothing, Quiet}
use Rattle.fork_tree.specs.declared.work.Parts.{Parts}
use Rattle.fork_tree.specs.declared.work.Parts.TheVariants.{CutSteps, Finished, Kids}
use Rattle.fork_tree.proofs.Entering.{grows-none, grows-one}
use Rattle.work_run.specs.Entering.{IsClaimEnded, claim_in}
use Rattle.work_run.specs.Turns.{is_claim}

-- a claim adds events of its worker alone
pub made-grows : {S L : Type 0} (well : S → Type 0) (s t : Story (Content S L)) (by : ℕ)
    (claim : Claim S) → IsClaim well s by claim t → GrowsBy by s t
made-grows well s t by (Claimed m a) ok = grows-one by s t (claim_event by m) ok.4 refl
made-grows well s t by Nothing ok = grows-none by s t ok.2
made-grows well s t by Quiet ok = grows-none by s t ok.1

pub claim-grows : {S L E : Type 0} (well : S → Type 0) (s r t : Story (Content S L)) (by : ℕ)
    (answer : Result (Claim S) E) → r ≡ s → IfOk answer (λ claim. IsClaim well r by claim t) →
    OnErr answer (t ≡ r) → GrowsBy by s t
claim-grows well s r t by (Ok claim) same ok err =
    subst (λ (x : Story (Content _ _)). GrowsBy by x t) same (made-grows well r t by claim ok)
claim-grows well s r t by (Err e) same ok err = grows-none by s t (err ∙ same)

-- where there was no memory for kids the claim was ended by a release
pub released-ended : {S L X E : Type 0} (s t : Story (Content S L)) (by node : ℕ)
    (answer : Result X E) → t ≡ with_event s (release_event by node) →
    OnErr answer ((released : Bool) × IsClaimEnded released by node s t)
released-ended s t by node (Ok x) is = _
released-ended s t by node (Err e) is = (
  true,
  record {
    event = release_event by node;
    of_worker = refl;
    of_node = refl;
    ends = refl;
    is_released = refl;
    story = is;
  },
)

-- an event that ends a claim, and is no release
ended-by : {S L : Type 0} (s t : Story (Content S L)) (e : Event (Content S L) (Vec (Kid (Content S L)))) →
    is_claim (kept e).deed ≡ false → is_release (kept e).deed ≡ false → t ≡ with_event s e → IsClaimEnded false e.by e.node s t
ended-by s t e ends stays is = record {
  event = e;
  of_worker = refl;
  of_node = refl;
  ends = ends;
  is_released = stays;
  story = is;
}

-- what is entered ends the claim, and not by a release
pub entered-ended : {S L : Type 0} (s t : Story (Content S L)) (by node : ℕ) (parts : Parts S L) →
    IsEntered s by node parts t → IsClaimEnded false by node s t
entered-ended s t by node (Finished leaf) is = ended-by s t (finish_event by node leaf) refl refl is
entered-ended s t by node (CutSteps leaf) is = ended-by s t (cut_event by node leaf) refl refl is
entered-ended s t by node (Kids kids run) (inl is) = ended-by s t (split_event by node kids) refl refl is
entered-ended s t by node (Kids kids run) (inr (leaf, is)) = ended-by s t (cut_event by node leaf) refl refl is

-- what holds of the claim in an answer
pub claim_ok : {C R E : Type 0} (P : C → Type 0) (entered : Result (C × R) E) (claimed : Result C E) →
    claimed ≡ claim_in entered → IfOk entered (λ e. P e.0) → IfOk claimed P
claim_ok P (Ok e) claimed is ok = subst (λ (r : Result _ _). IfOk r P) (sym is) ok
claim_ok P (Err e) claimed is ok = subst (λ (r : Result _ _). IfOk r P) (sym is) tt

pub claim_err : {C R E : Type 0} (Q : Type 0) (entered : Result (C × R) E) (claimed : Result C E) →
    claimed ≡ claim_in entered → OnErr entered Q → OnErr claimed Q
claim_err Q (Ok e) claimed is err = subst (λ (r : Result _ _). OnErr r Q) (sym is) tt
claim_err Q (Err e) claimed is err = subst (λ (r : Result _ _). OnErr r Q) (sym is) err

-- What a walk that came to its end shows.
use Rattle.std.proofs.Common.{◌≡◌, ℕ, ◌-◌, ◌≤◌, List, [], length, map, inl, inr, get_or, refl, subst, sym, ◌∙◌, arith}
use Rattle.std.proofs.lemmas.List.{append-nil}
use Rattle.std.specs.Prelude.{◌≢◌, ◌⊎◌, sum_by, None, Some}
use Rattle.cert_form.specs.Certificates.{Certificate}
use Rattle.cert_form.specs.declared.line.CertLine.{CertLine}
use Rattle.cert_query.specs.declared.fault.Fault.{Fault}
use Rattle.elf_load.specs.Fits.{unfit}
use Rattle.elf_load.specs.Images.{Image}
use Rattle.fork_spec.specs.Parts.{Part}
use Rattle.tree_core.specs.declared.cause.Cause.TheVariants.{Nodes}
use Rattle.cert_audit.specs.Audits.{AreLeavesOf, IsAudited, IsRightIn, IsSettled}
use Rattle.cert_audit.specs.Causes.{HasCause, IsCause, has_too_few_nodes, is_not_walked, line_at}
use Rattle.cert_audit.specs.Limits.{AreWithin, budgets_of}
use Rattle.cert_audit.specs.Names.{named_from, nodes_in, sides_in}
use Rattle.cert_audit.specs.Steps.{IsRightAt, named_as}
use Rattle.cert_audit.specs.WalkFaults.{IsWalkFault}
use Rattle.cert_audit.specs.Walks.{AreCounted, IsWalked, cut_of}
use Rattle.cert_audit.specs.declared.auditing.Verdict.{Verdict}
use Rattle.cert_audit.specs.declared.auditing.Verdict.TheVariants.{Yes, No}
use Rattle.cert_audit.specs.declared.walking.Tally.{Tally}

-- nothing is missing
pub enough_nodes : (nodes missing : ℕ) (lines : List CertLine) → missing ≡ nodes - 1 - sum_by (λ line. length (sides_in line)) lines → missing ≡ 0
    → nodes ≤ nodes_in lines
unfolding nodes_in
enough_nodes nodes missing lines is none = omega (arith, is, none)

-- nothing is missing where there are enough
pub none_missing : (nodes missing : ℕ) (lines : List CertLine) → missing ≡ nodes - 1 - sum_by (λ line. length (sides_in line)) lines → nodes ≤ nodes_in lines
    → missing ≡ 0
unfolding nodes_in
none_missing nodes missing lines is enough = omega (arith, is, enough)

-- a leaf that was cut for want of nodes shows no more than there are
right_in : (image : Image) (cert : Certificate) (tally : Tally) (part : Part)
    → IsRightAt (record { image = image; regions = cert.regions }) (budgets_of cert.budgets) part
    → (cut_of part ≡ Some Nodes → cert.budgets.nodes ≤ nodes_in cert.lines) → IsRightIn image cert part
right_in image cert tally part is enough = record {
  sides = is.sides;
  nodes = is.nodes;
  counted = λ n shown. let at = is.counted n shown in let more = enough at.1 in omega (arith, at.0, more);
  right = is.right;
}

module _ (image : Image) (cert : Certificate) (tally : Tally)
    (walked : IsWalked (record { image = image; regions = cert.regions }) (budgets_of cert.budgets) cert.lines [] [] tally) where
  enough_for : ((tally.first_by_nodes ≡ None) ⊎ (cert.budgets.nodes ≤ nodes_in cert.lines)) → (part : Part)
      → (tally.first_by_nodes ≡ None → cut_of part ≢ Some Nodes) → cut_of part ≡ Some Nodes → cert.budgets.nodes ≤ nodes_in cert.lines
  enough_for (inl none) part other by = absurd (other none by)
  enough_for (inr enough) part other by = enough

  leaves_of : ((tally.first_by_nodes ≡ None) ⊎ (cert.budgets.nodes ≤ nodes_in cert.lines)) → AreLeavesOf image cert walked.parts
  unfolding named_from
  leaves_of settled = record {
    named = sym (append-nil (map named_as walked.parts)) ∙ walked.named;
    right = λ k d within. right_in image cert tally (get_or walked.parts k d) (walked.right k d within)
        (enough_for settled (get_or walked.parts k d) (λ none. walked.by_nodes none k d within));
    once = λ input is. let one = walked.once input is in omega (arith, one);
  }

  pub audited_by : (said : Verdict) → IsSettled tally cert.lines cert.budgets.nodes said → IsAudited image cert said
  audited_by (Yes leaves) is = (
    walked.parts,
    leaves_of is.1,
    subst (AreCounted walked.parts) (sym is.0) walked.counted,
  )
  audited_by (No line reason) is = tt

  -- a no has its cause
  pub caused_by : unfit image cert.regions ≡ None → AreWithin cert.budgets → (said : Verdict) → IsSettled tally cert.lines cert.budgets.nodes said → HasCause image cert said
  caused_by fits within (Yes leaves) is = tt
  caused_by fits within (No line reason) is =
      has_too_few_nodes (record { fits = fits; within = within }) is.0 (record { tally = tally; walked = walked; first = is.1; few = is.2 }) is.3 is.4

pub not_walked : (image : Image) (cert : Certificate) (fault : Fault) → unfit image cert.regions ≡ None → AreWithin cert.budgets
    → IsWalkFault (record { image = image; regions = cert.regions }) (budgets_of cert.budgets) cert.lines fault
    → (line : ℕ) → line ≡ line_at cert.lines fault.left → IsCause image cert line fault.reason
not_walked image cert fault fits within refused line is = is_not_walked (record { fits = fits; within = within }) fault refused is refl

-- Values of a term of a run, each with an assignment on which the term has it.
use Rattle.std.proofs.Common.{◌≡◌, ℕ, ◌+◌, ◌^◌, ◌<◌, true, ◌&&◌, List, [], ◌∷◌, ◌++◌, get_or, length, map, take, drop, sym, ap, subst, ◌∙◌, arith, append_assoc}
use Rattle.std.specs.Prelude.{All}
use Rattle.std.proofs.lemmas.Grind.{take_at_read}
use Rattle.std.proofs.lemmas.List.{get_or-drop, length-append, length-map, map-append, take-append-drop}
use Rattle.std.proofs.lemmas.List.Elements.{All-nil, All-cons, All-append}
use Rattle.bv_dag.specs.Graphs.{Graph, number_of, width_of}
use Rattle.bv_dag.specs.Queries.{AreBits, holds}
use Rattle.bv_dag.proofs.TermLaws.{there}
use Rattle.cert_form.specs.declared.line.CertLine.{CertLine}
use Rattle.cert_form.specs.declared.line.CertLine.TheVariants.{Value, Witness}
use Rattle.cert_query.specs.declared.fault.Fault.{Fault}
use Rattle.fork_spec.specs.Evidence.{Found}
use Rattle.fork_spec.specs.Leaves.{are_bytes}
use Rattle.fork_spec.proofs.ByteLists.{are_bytes-of}
use Rattle.run_leaves.proofs.Copying.{all-copied, copies-back, copies-front, holds-copied}
use Rattle.run_leaves.proofs.Leaving.{first_number}
use Rattle.run_leaves.specs.Copies.{AreCopies}
use Rattle.run_leaves.specs.Values.{HasValue}
use Rattle.sym_state.proofs.Tests.{all_true}
use Rattle.sym_state.specs.Symbolic.{Symbolic, IsFormed, stands_for}
use Rattle.cert_audit.specs.LeafFaults.{IsTargetsFault, IsValueFault, IsValuesFault, IsWitnessFault, in_witness}
use Rattle.cert_audit.specs.Valued.{AreSamples, AreValueLines, IsValued, IsValueOf}
use Rattle.cert_audit.specs.declared.todo.Others.{Others}
use Rattle.cert_audit.specs.declared.valued.Valued.{Valued}

-- ---- A run's condition and a term behind it, picked.
-- they are there
pub asked_there : (s : Symbolic) (term : ℕ) → IsFormed s → term < length s.terms.nodes
    → All (λ id. id < length s.terms.nodes) (s.condition ++ term ∷ [])
asked_there s term formed within =
    All-append (λ id. id < length s.terms.nodes) s.condition (term ∷ []) (λ k d below. there s.terms _ 1 (formed.bits k d below) (omega arith))
    (All-cons (λ id. id < length s.terms.nodes) term [] within (All-nil (λ id. id < length s.terms.nodes)))

module _ (s : Symbolic) (term at : ℕ) (g : Graph) (ids : List ℕ) (is_at : at ≡ length s.condition)
    (is : AreCopies s.terms (s.condition ++ term ∷ []) g ids) where
  picked_front : AreCopies s.terms s.condition g (take at ids)
  picked_front = subst (λ n. AreCopies s.terms s.condition g (take n ids)) (sym is_at) (copies-front s.terms g s.condition (term ∷ []) ids is)

  picked_back : AreCopies s.terms (term ∷ []) g (drop at ids)
  picked_back = subst (λ n. AreCopies s.terms (term ∷ []) g (drop n ids)) (sym is_at) (copies-back s.terms g s.condition (term ∷ []) ids is)

  pub picked_behind : at < length ids
  picked_behind =
      let same = ap length is.widths in
      omega (arith, is_at, same, length-map ids (width_of g), length-map (s.condition ++ term ∷ []) (width_of s.terms), length-append s.condition (term ∷ []))

  pub picked_bits : IsFormed s → AreBits g (take at ids)
  picked_bits formed = all-copied s.terms g 1 s.condition (take at ids) picked_front.widths formed.bits

  number-picked : (d : ℕ) (input : List ℕ) → number_of g (get_or ids at d) input ≡ number_of s.terms term input
  number-picked d input =
      let same : at + 0 ≡ at = omega arith in
      ap (λ k. number_of g k input) (sym (get_or-drop at ids 0 d ∙ ap (λ n. get_or ids n d) same)) ∙ first_number s.terms g term d (drop at ids) input picked_back

  pub picked_valued : (d : ℕ) → IsFormed s → All (λ id. id < length g.nodes) ids
      → IsValued s term (record { condition = record { graph = g; asserted = take at ids }; term = get_or ids at d })
  picked_valued d formed within = record {
    formed = formed;
    there = within at d picked_behind;
    meets = λ input. holds-copied s.terms g s.condition (take at ids) input picked_front;
    numbers = number-picked d;
  }

-- ---- A value that was checked.
pub value_of : (v : Valued) (f g : Found) (input : List ℕ) → g ≡ f → input ≡ g.input → All (λ b. b < 256) input
    → holds v.condition input ≡ true → number_of v.condition.graph v.term input ≡ g.value → g.value < 2 ^ 32 → IsValueOf v f
value_of v f g input same taken bytes met number small =
    subst (IsValueOf v) same
    (subst (λ xs. IsValueOf v (record { value = g.value; input = xs })) taken
    (record { stands = all_true _ _ (are_bytes-of input bytes) met; value = number; small = small }))

-- it is one of the run
pub value_in : (s : Symbolic) (term : ℕ) (v : Valued) (f : Found) → IsValued s term v → IsValueOf v f → HasValue s term f
value_in s term v f valued is = (
  ap (λ b. are_bytes f.input && b) (sym (valued.meets f.input)) ∙ is.stands,
  sym (valued.numbers f.input) ∙ is.value,
  is.small,
)

-- ---- Lines of values.
-- one more of them
pub one_value_more : (v : Valued) (values : List ℕ) (k d : ℕ) (lines rest more : List CertLine) (found : List Found) (one : Found) → k < length values
    → AreValueLines v (take k values) lines found rest → rest ≡ Value one ∷ more → one.value ≡ get_or values k d → IsValueOf v one
    → AreValueLines v (take (k + 1) values) lines (found ++ one ∷ []) more
one_value_more v values k d lines rest more found one within so_far next value is = record {
  split = so_far.split ∙ ap (λ (ls : List CertLine). map Value found ++ ls) next
      ∙ sym (append_assoc (map Value found) (Value one ∷ []) more)
      ∙ ap (λ (ls : List CertLine). ls ++ more) (sym (map-append Value found (one ∷ [])));
  values_are = map-append (λ (f : Found). f.value) found (one ∷ [])
      ∙ ap (λ (vs : List ℕ). vs ++ one.value ∷ []) so_far.values_are
      ∙ ap (λ (x : ℕ). take k values ++ x ∷ []) value ∙ sym (take_at_read values k d within).1;
  each = All-append (IsValueOf v) found (one ∷ []) so_far.each (All-cons (IsValueOf v) one [] is (All-nil (IsValueOf v)));
}

-- the next of them is refused
pub fault_at_value : (s : Symbolic) (term : ℕ) (v : Valued) (values : List ℕ) (k d : ℕ) (lines rest : List CertLine) (found : List Found) (fault : Fault) → k < length values
    → AreValueLines v (take k values) lines found rest → IsValued s term v → IsValueFault s term (get_or values k d) rest fault
    → IsValuesFault s term values lines fault
fault_at_value s term v values k d lines rest found fault within so_far valued refused = record {
  found = found;
  value = get_or values k d;
  others = drop (k + 1) values;
  values_are = sym (take-append-drop (k + 1) values) ∙ ap (λ (vs : List ℕ). vs ++ drop (k + 1) values) (take_at_read values k d within).1
      ∙ append_assoc (take k values) (get_or values k d ∷ []) (drop (k + 1) values)
      ∙ ap (λ (vs : List ℕ). vs ++ get_or values k d ∷ drop (k + 1) values) (sym so_far.values_are);
  each = λ i e below. value_in s term v (get_or found i e) valued (so_far.each i e below);
  refused = record { rest = rest; split = so_far.split; here = refused };
}

-- those of the other sides, and an assignment of the rest
pub samples_are : (others : Others) (targets : ℕ) (lines mid rest : List CertLine) (found : List Found) (witness : List ℕ) (v : Valued)
    → IsValued others.fork others.term v → AreValueLines v others.values.items lines found mid → length others.values.items ≡ targets
    → mid ≡ Witness witness ∷ rest → stands_for others.rest witness ≡ true → AreSamples others targets lines found witness rest
samples_are others targets lines mid rest found witness v valued values count last on_rest = record {
  formed = valued.formed;
  values_are = values.values_are;
  count = sym (length-map found (λ (f : Found). f.value)) ∙ ap length values.values_are ∙ count;
  each = λ k d below. value_in others.fork others.term v (get_or found k d) valued (values.each k d below);
  on_rest = on_rest;
  split = values.split ∙ ap (λ more. map Value found ++ more) last;
}

-- no assignment of the rest comes behind them
pub fault_at_witness : (others : Others) (targets : ℕ) (lines mid : List CertLine) (found : List Found) (v : Valued) (fault : Fault)
    → IsValued others.fork others.term v → AreValueLines v others.values.items lines found mid → length others.values.items ≡ targets
    → IsWitnessFault others.rest mid fault → IsTargetsFault others targets lines fault
fault_at_witness others targets lines mid found v fault valued values count refused =
    in_witness count found values.values_are (λ k d below. value_in others.fork others.term v (get_or found k d) valued (values.each k d below))
    (record { rest = mid; split = values.split; here = refused })

-- Terms of a graph, evaluated one after the other.
use Rattle.std.proofs.Common.{◌≡◌, ◌<◌, ◌+◌, ℕ, List, [], ◌∷◌, ◌++◌, length, map, take, get_or, refl, sym, ap, subst, ◌∙◌, arith}
use Rattle.std.proofs.lemmas.List.{get_or_default, length-append}
use Rattle.std.proofs.lemmas.Option.{slice_get-get_or}
use Rattle.bv_dag.specs.BitVectors.{BitVector}
use Rattle.bv_dag.specs.Graphs.{Graph, IsDag, val}
use Rattle.bv_dag.specs.Nodes.{Fits, map_in_turn, node_value, values, width, vector_at}
use Rattle.bv_dag.specs.declared.nodes.Node.{Node}
use Rattle.bv_dag.proofs.Fitting.{Fits-values, get_or-values-take, length-values, values_more}
use Rattle.bv_dag.specs.Evaluations.{AreFirstWords}

-- the next node fits behind those that were evaluated
pub next_fits : (g : Graph) (input : List ℕ) (words : List BitVector) (n : ℕ) (d : Node) → n ≡ length words → n < length g.nodes → IsDag g → length input ≡ g.inputs → AreFirstWords g input words
    → Fits (length input) (map width words) (get_or g.nodes n d)
next_fits g input words n d at there dag each first =
    subst (λ (k : ℕ). Fits k (map width words) (get_or g.nodes n d)) (sym each)
    (subst (λ (ws : List BitVector). Fits g.inputs (map width ws) (get_or g.nodes n d)) (ap (λ (k : ℕ). values input (take k g.nodes)) at ∙ sym first.worth)
    (Fits-values g.inputs input g.nodes n (get_or g.nodes n d) dag.all_fit (slice_get-get_or g.nodes n d there)))

pub next_first : (g : Graph) (input : List ℕ) (words more : List BitVector) (word : BitVector) (n : ℕ) (d : Node) → n ≡ length words → n < length g.nodes → AreFirstWords g input words
    → word ≡ node_value input (vector_at words) (get_or g.nodes n d) → more ≡ words ++ word ∷ [] → AreFirstWords g input more
next_first g input words more word n d at there first is pushed =
    let longer : length more ≡ n + 1 = omega (arith, at, ap length pushed, length-append words (word ∷ [])) in
    let worth_first : words ≡ values input (take n g.nodes) = first.worth ∙ ap (λ (k : ℕ). values input (take k g.nodes)) (sym at) in
    record {
      few = omega (arith, there, longer);
      worth =
          pushed
          ∙ ap (λ (w : BitVector). words ++ w ∷ []) is
          ∙ ap (λ (ws : List BitVector). ws ++ node_value input (vector_at ws) (get_or g.nodes n d) ∷ []) worth_first
          ∙ sym (values_more input g.nodes n d there)
          ∙ ap (λ (k : ℕ). values input (take k g.nodes)) (sym longer);
    }

-- what is read among the words is what the term is worth
pub read_first : (g : Graph) (input : List ℕ) (words : List BitVector) (id : ℕ) (w : BitVector) → AreFirstWords g input words → id < length words → w ≡ get_or words id w → w ≡ val g id input
read_first g input words id w first there read =
    read
    ∙ ap (λ (ws : List BitVector). get_or ws id w) first.worth
    ∙ get_or-values-take input g.nodes (length words) id w there first.few
    ∙ get_or_default (values input g.nodes) id w (record { width = 0; number = 0 }) (omega (arith, there, first.few, length-values input g.nodes))

pub word_first : (g : Graph) (input : List ℕ) (words : List BitVector) (id : ℕ) → AreFirstWords g input words → id < length words → vector_at words id ≡ val g id input
word_first g input words id first there =
    read_first g input words id (vector_at words id) first there (get_or_default words id (record { width = 0; number = 0 }) (vector_at words id) there)

-- nothing was evaluated yet
pub none_first : (g : Graph) (input : List ℕ) (words : List BitVector) → words ≡ [] → AreFirstWords g input words
unfolding values map_in_turn
none_first g input words none = subst (AreFirstWords g input) (sym none) (record { few = omega arith; worth = refl })

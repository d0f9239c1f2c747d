-- What instructions make of a run's terms.
use Rattle.std.proofs.Common.{◌≡◌, ℕ, ◌+◌, ◌%◌, Bool, true, false, List, [], ◌∷◌, ◌++◌, map, refl, sym, ap, ◌∙◌, arith}
use Rattle.std.specs.Prelude.{◌==◌, Result, Ok, Err, OnOk, if◌then◌else◌, slice_set}
use Rattle.std.specs.List.{list_all}
use Rattle.std.proofs.Math.Path.{fun_ext}
use Rattle.std.proofs.Math.ListN as lists
use Rattle.std.proofs.lemmas.List.{map-append, map-set}
use Rattle.cow_pages.specs.SymbolicMemory.{memory_byte, memory_flags}
use Rattle.cow_pages.specs.declared.byte.Byte.{Byte}
use Rattle.bv_dag.specs.Graphs.{Graph}
use Rattle.rv_spec.specs.Arithmetic.{sum32}
use Rattle.rv_spec.specs.Machine.{addresses}
use Rattle.rv_spec.specs.Memory.{is_mapped}
use Rattle.sym_state.specs.Expressions.{Expression, Number as ANumber, byte_expression, register_byte, value_expression}
use Rattle.sym_state.specs.Moves.{IsGrown, stored_at}
use Rattle.sym_state.specs.Symbolic.{Symbolic, set_value, value_at}
use Rattle.sym_state.specs.Updates.{without}
use Rattle.sym_state.specs.Unfolded.{Unfolded, expression_at, set_expression, unfolded}
use Rattle.sym_state.specs.Unfolding.{linked, onward, to_register, with_put, write}
use Rattle.sym_state.specs.declared.value.Value.{Value}
use Rattle.sym_state.specs.declared.value.Value.TheVariants.{Number}
use Rattle.sym_state.proofs.Grown.{unfolded-grown}
use Rattle.sym_state.proofs.Updating.{without-expressed}
use Rattle.sym_machine.specs.Calls.{WritesOutput}
use Rattle.sym_machine.proofs.Standing.{map-map, onward_with}

-- ---- Registers.
pub expression-x : (s : Symbolic) (r : ℕ) → expression_at (unfolded s).registers r ≡ value_expression s.terms (value_at s.registers r)
expression-x s r = lists.get_or-map (value_expression s.terms) s.registers r (Number 0)

pub expressions-set : (f : Value → Expression) (rs : List Value) (rd : ℕ) (v : Value)
    → map f (set_value rs rd v) ≡ set_expression (map f rs) rd (f v)
expressions-set f rs rd v =
    elim (rd == 0) as (λ b. map f (if b then rs else slice_set rs rd v) ≡ (if b then map f rs else slice_set (map f rs) rd (f v)))
    [ true ↦ refl | false ↦ map-set f rs rd v ]

-- with a register written, at an address
pub unfolded-moved : (s : Symbolic) (pc rd : ℕ) (v : Value)
    → unfolded (record s { pc = pc; registers = set_value s.registers rd v })
    ≡ record (unfolded s) { pc = pc; registers = set_expression (unfolded s).registers rd (value_expression s.terms v) }
unfolded-moved s pc rd v =
    ap (λ es. record (unfolded s) { pc = pc; registers = es }) (expressions-set (value_expression s.terms) s.registers rd v)

pub unfolded-onward : (s : Symbolic) (rd : ℕ) (v : Value) → unfolded (onward_with s rd v) ≡ to_register (unfolded s) rd (value_expression s.terms v)
unfolded-onward s rd v = unfolded-moved s (sum32 s.pc 4) rd v

-- a value that terms were made for is written
pub written : (old mid new : Symbolic) (rd : ℕ) (v : Value) (e : Expression) → IsGrown old mid → new ≡ onward_with mid rd v
    → value_expression mid.terms v ≡ e → unfolded new ≡ to_register (unfolded old) rd e
written old mid new rd v e grown there is =
    ap unfolded there ∙ unfolded-onward mid rd v
    ∙ ap (λ u. to_register u rd (value_expression mid.terms v)) (unfolded-grown old mid grown)
    ∙ ap (to_register (unfolded old) rd) is

-- ---- Jumps.
pub links : (u : Unfolded) (rd target : ℕ) → (target % 4 == 0) ≡ true
    → record u { pc = target; registers = set_expression u.registers rd (ANumber (sum32 u.pc 4)) } ≡ linked u rd target
links u rd target aligned = rw aligned refl

pub links_not : (u : Unfolded) (rd target : ℕ) → (target % 4 == 0) ≡ false → u ≡ linked u rd target
links_not u rd target other = rw other refl

-- ---- Stores.
expression-if : (g : Graph) (t : Bool) (a b : Byte) → byte_expression g (if t then a else b) ≡ (if t then byte_expression g a else byte_expression g b)
expression-if g true a b = refl
expression-if g false a b = refl

-- one byte, which terms were made for
pub unfolded-put : {E : Type 0} (old mid new : Symbolic) (address : ℕ) (byte : Byte) (e : Expression) (r : Result (Unit {0}) E)
    → IsGrown old mid → byte_expression mid.terms byte ≡ e
    → OnOk r (new ≡ stored_at mid address byte)
    → OnOk r ((at : ℕ) → memory_byte new.memory at ≡ (if at == address then byte else memory_byte mid.memory at))
    → OnOk r ((page : ℕ) → memory_flags new.memory page ≡ memory_flags mid.memory page)
    → OnOk r (unfolded new ≡ with_put (unfolded old) address (e ∷ []))
unfolded-put old mid new address byte e (Err x) grown is there bytes flags = tt
unfolded-put old mid new address byte e (Ok x) grown is there bytes flags =
    ap unfolded (there ∙ ap (λ m. record mid { memory = m; updates = without address mid.updates }) (sym (ap (λ (s : Symbolic). s.memory) there)))
    ∙ ap (λ ts. record (unfolded (record mid { memory = new.memory })) { updates = ts }) (sym (without-expressed mid.terms address mid.updates))
    ∙ ap (λ (f : ℕ → Expression). record (unfolded (record mid { memory = new.memory })) { byte = f; updates = without address (unfolded mid).updates })
    (fun_ext (λ at. ap (byte_expression mid.terms) (bytes at) ∙ expression-if mid.terms (at == address) byte (memory_byte mid.memory at)))
    ∙ ap (λ f. record (with_put (unfolded mid) address (byte_expression mid.terms byte ∷ [])) { flags = f }) (fun_ext flags)
    ∙ ap (λ u. with_put u address (byte_expression mid.terms byte ∷ [])) (unfolded-grown old mid grown)
    ∙ ap (λ x. with_put (unfolded old) address (x ∷ [])) is

-- a byte, and more behind it
pub put_more : (u v w : Unfolded) (address next : ℕ) (e : Expression) (es fs : List Expression) → next ≡ address + 1
    → v ≡ with_put u address (e ∷ []) → w ≡ with_put v next es → es ≡ fs → w ≡ with_put u address (e ∷ fs)
put_more u v w address next e es fs is_next first second same =
    second ∙ ap (λ n. with_put v n es) is_next ∙ ap (with_put v (address + 1)) same ∙ ap (λ x. with_put x (address + 1) fs) first

pub put_two : {E : Type 0} (u v w : Unfolded) (address : ℕ) (e0 e1 was : Expression) (r : Result (Unit {0}) E)
    → v ≡ with_put u address (e0 ∷ []) → OnOk r (w ≡ with_put v (address + 1) (was ∷ [])) → was ≡ e1 → OnOk r (w ≡ with_put u address (e0 ∷ e1 ∷ []))
put_two u v w address e0 e1 was (Err x) first second same = tt
put_two u v w address e0 e1 was (Ok x) first second same =
    put_more u v w address (address + 1) e0 (was ∷ []) (e1 ∷ []) refl first second (ap (λ e. e ∷ []) same)

-- the bytes of a value, whose expression is the same whatever was made for the bytes before
pub put_four : {E : Type 0} (u0 u1 u2 u3 u4 : Unfolded) (address : ℕ) (v v1 v2 v3 : Expression) (r : Result (Unit {0}) E)
    → v1 ≡ v → v2 ≡ v → v3 ≡ v
    → u1 ≡ with_put u0 address (register_byte 0 v ∷ []) → u2 ≡ with_put u1 (address + 1) (register_byte 1 v1 ∷ [])
    → u3 ≡ with_put u2 (address + 2) (register_byte 2 v2 ∷ []) → OnOk r (u4 ≡ with_put u3 (address + 3) (register_byte 3 v3 ∷ []))
    → OnOk r (u4 ≡ with_put u0 address (register_byte 0 v ∷ register_byte 1 v ∷ register_byte 2 v ∷ register_byte 3 v ∷ []))
put_four u0 u1 u2 u3 u4 address v v1 v2 v3 (Err x) same1 same2 same3 first second third fourth = tt
put_four u0 u1 u2 u3 u4 address v v1 v2 v3 (Ok x) same1 same2 same3 first second third fourth =
    put_more u0 u1 u4 address (address + 1) (register_byte 0 v) (register_byte 1 v ∷ register_byte 2 v ∷ register_byte 3 v ∷ []) (register_byte 1 v ∷ register_byte 2 v ∷ register_byte 3 v ∷ []) refl first
    (put_more u1 u2 u4 (address + 1) (address + 2) (register_byte 1 v) (register_byte 2 v ∷ register_byte 3 v ∷ []) (register_byte 2 v ∷ register_byte 3 v ∷ []) (omega arith)
    (second ∙ ap (λ e. with_put u1 (address + 1) (register_byte 1 e ∷ [])) same1)
    (put_more u2 u3 u4 (address + 2) (address + 3) (register_byte 2 v) (register_byte 3 v3 ∷ []) (register_byte 3 v ∷ []) (omega arith)
    (third ∙ ap (λ e. with_put u2 (address + 2) (register_byte 2 e ∷ [])) same2) fourth (ap (λ e. register_byte 3 e ∷ []) same3)) refl) refl

-- ---- Writes.
writes_all : (u : Unfolded) (start count : ℕ) → list_all (is_mapped u.flags) (addresses start count) ≡ true
    → onward (record u { output = u.output ++ map u.byte (addresses start count) }) (set_expression u.registers 10 (ANumber count)) ≡ write u start count
writes_all u start count all = rw all refl

pub writes_nothing : (u : Unfolded) (start count : ℕ) → list_all (is_mapped u.flags) (addresses start count) ≡ false → u ≡ write u start count
writes_nothing u start count other = rw other refl

pub unfolded-written : (s t : Symbolic) (start count : ℕ) → WritesOutput s t start count
    → list_all (is_mapped (memory_flags s.memory)) (addresses start count) ≡ true
    → unfolded (record t { pc = sum32 t.pc 4; registers = set_value t.registers 10 (Number count) }) ≡ write (unfolded s) start count
unfolded-written s t start count done all =
    ap (λ (r : Symbolic). unfolded (record r { pc = sum32 r.pc 4; registers = set_value r.registers 10 (Number count) })) done.is
    ∙ unfolded-moved (record s { output = s.output ++ map (memory_byte s.memory) (addresses start count) }) (sum32 s.pc 4) 10 (Number count)
    ∙ ap (λ es. record (unfolded s) { pc = sum32 s.pc 4; registers = set_expression (unfolded s).registers 10 (ANumber count); output = es })
    (map-append (byte_expression s.terms) s.output (map (memory_byte s.memory) (addresses start count))
    ∙ ap (λ es. map (byte_expression s.terms) s.output ++ es) (map-map (byte_expression s.terms) (memory_byte s.memory) (addresses start count)))
    ∙ writes_all (unfolded s) start count all

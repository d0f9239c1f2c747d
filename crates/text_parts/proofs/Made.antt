-- Texts that were made or appended to, by another name.
use Rattle.std.proofs.Common.{Result, Ok, Err, IfOk, OnOk, String, Global, string_bytes, is_ok, if◌then◌else◌, ◌≡◌, ℕ, List, ◌++◌, ap, ◌∙◌}
use Rattle.std.specs.declared.alloc.AllocError.{AllocError}

-- a text that was made, by another name
pub made_text : (made : Result (String Global) AllocError) (one other : List ℕ) →
    IfOk made (λ text. string_bytes text ≡ one) → one ≡ other →
    IfOk made (λ text. string_bytes text ≡ other)
made_text (Ok text) one other h e = h ∙ e
made_text (Err e) one other h _ = tt

-- what a text is after a call that went well, by another name
pub behind : {X E : Type 0} (went : Result X E) (new one other : List ℕ) → OnOk went (new ≡ one) →
    one ≡ other → OnOk went (new ≡ other)
behind (Ok x) new one other h e = h ∙ e
behind (Err x) new one other h _ = tt

-- a string behind a text, if there was room for it
pub appended : {X E : Type 0} (went : Result X E) (old new string other : List ℕ) →
    new ≡ (if is_ok went then old ++ string else old) → old ++ string ≡ other →
    OnOk went (new ≡ other)
appended (Ok x) old new string other h e = h ∙ e
appended (Err x) old new string other h _ = tt

-- a text behind another, by another name
pub pushed : (old new text other : List ℕ) → new ≡ old ++ text → text ≡ other → new ≡ old ++ other
pushed old new text other e more = e ∙ ap (λ t. old ++ t) more

-- A line feed after printed tokens changes nothing. The lexer gives the lexemes that were printed, as in `json`'s own proof.
use Rattle.std.proofs.Common.{◌≡◌, ◌∙◌, Bool, true, false, cond, ◌&&◌, List, [], ◌∷◌, ◌++◌, ℕ, refl, sym, ap, ap₂, append_assoc, append-nil, codes}
use Rattle.json.specs.Token.{Token, begin_object, end_object, begin_array, end_array, key, string, number, boolean, null, bad}
use Rattle.json.specs.Word.{ends_word, word}
use Rattle.json.specs.Lex.{Lexeme, token, comma, colon, string_token, lex, between, fresh, punctuate, tokens}
use Rattle.json.specs.Print.{escape, quoted, token_text, begins, ends, separator, print_from, print, IsPrintable, ArePrintable}
use Rattle.json.proofs.Printed.Strings.{content-escape, lex-escape}
use Rattle.json.proofs.Printed.Numbers.{lex-number, in_word-ended}
use Rattle.json.proofs.Printed.Tokens.{tokens-print}

abbrev token_lexemes : Token → List Lexeme
token_lexemes begin_object = token begin_object ∷ []
token_lexemes end_object = token end_object ∷ []
token_lexemes begin_array = token begin_array ∷ []
token_lexemes end_array = token end_array ∷ []
token_lexemes (key s) = token (string s) ∷ colon ∷ []
token_lexemes (string s) = token (string s) ∷ []
token_lexemes (number s) = token (number s) ∷ []
token_lexemes (boolean b) = token (boolean b) ∷ []
token_lexemes null = token null ∷ []
token_lexemes bad = []

lex-quoted : (s r : List ℕ) → lex between (quoted s ++ r) ≡ token (string s) ∷ lex between r
unfolding lex
lex-quoted s r =
    let e = append_assoc (escape s) (34 ∷ []) r in
    ap (λ l. lex between (34 ∷ l)) e ∙ ap₂ (λ o l. token (string_token o) ∷ l) (content-escape s r) (lex-escape s r)

lex-token_text : (t : Token) (r : List ℕ) → IsPrintable t → (ends t ≡ true → ends_word r ≡ true) → lex between (token_text t ++ r) ≡ token_lexemes t ++ lex between r
unfolding lex word
lex-token_text begin_object r h ended = refl
lex-token_text end_object r h ended = refl
lex-token_text begin_array r h ended = refl
lex-token_text end_array r h ended = refl
lex-token_text (key s) r h ended = ap (lex between) (append_assoc (quoted s) (58 ∷ []) r) ∙ lex-quoted s (58 ∷ r)
lex-token_text (string s) r h ended = lex-quoted s r
lex-token_text (number s) r h ended = lex-number s r h (ended refl)
lex-token_text (boolean true) r h ended = ap₂ (λ b l. token (cond b (boolean true) bad) ∷ l) (ended refl) (in_word-ended r (ended refl))
lex-token_text (boolean false) r h ended = ap₂ (λ b l. token (cond b (boolean false) bad) ∷ l) (ended refl) (in_word-ended r (ended refl))
lex-token_text null r h ended = ap₂ (λ b l. token (cond b null bad) ∷ l) (ended refl) (in_word-ended r (ended refl))
lex-token_text bad r h ended = absurd h

lex-separator : (b : Bool) (r : List ℕ) → lex between (cond b (44 ∷ []) [] ++ r) ≡ cond b (comma ∷ []) [] ++ lex between r
unfolding lex
lex-separator true r = refl
lex-separator false r = refl

-- after a value stands a comma, a closing bracket, or what follows
value_ends : (ts : List Token) (end : List ℕ) → ends_word end ≡ true → ends_word (print_from true ts ++ end) ≡ true
unfolding print_from
value_ends [] end is = is
value_ends (begin_object ∷ ts) end is = refl
value_ends (end_object ∷ ts) end is = refl
value_ends (begin_array ∷ ts) end is = refl
value_ends (end_array ∷ ts) end is = refl
value_ends (key s ∷ ts) end is = refl
value_ends (string s ∷ ts) end is = refl
value_ends (number s ∷ ts) end is = refl
value_ends (boolean b ∷ ts) end is = refl
value_ends (null ∷ ts) end is = refl
value_ends (bad ∷ ts) end is = refl

-- two texts that end a word and lex alike do so after printed tokens
lex_ends : (ts : List Token) (c : Bool) (one two : List ℕ) → ArePrintable ts → ends_word one ≡ true → ends_word two ≡ true → lex between one ≡ lex between two
    → lex between (print_from c ts ++ one) ≡ lex between (print_from c ts ++ two)
unfolding print_from ArePrintable
lex_ends [] c one two h first second same = same
lex_ends (t ∷ ts) c one two h first second same =
    token_first c t ts one h.0 first ∙ ap (λ l. cond (c && begins t) (comma ∷ []) [] ++ (token_lexemes t ++ l)) (lex_ends ts (ends t) one two h.1 first second same)
    ∙ sym (token_first c t ts two h.0 second)
  where
    token_first : (c : Bool) (t : Token) (ts : List Token) (end : List ℕ) → IsPrintable t → ends_word end ≡ true
        → lex between ((separator c t ++ (token_text t ++ print_from (ends t) ts)) ++ end) ≡ cond (c && begins t) (comma ∷ []) [] ++ (token_lexemes t ++ lex between (print_from (ends t) ts ++ end))
    token_first c t ts end printable is =
        ap (lex between) (append_assoc (separator c t) (token_text t ++ print_from (ends t) ts) end ∙ ap (λ l. separator c t ++ l) (append_assoc (token_text t) (print_from (ends t) ts) end))
        ∙ lex-separator (c && begins t) (token_text t ++ (print_from (ends t) ts ++ end))
        ∙ ap (λ l. cond (c && begins t) (comma ∷ []) [] ++ l)
        (lex-token_text t (print_from (ends t) ts ++ end) printable (λ e. ap (λ b. ends_word (print_from b ts ++ end)) e ∙ value_ends ts end is))

pub tokens-line : (ts : List Token) → ArePrintable ts → tokens (print ts ++ codes "\n") ≡ ts
unfolding lex
tokens-line ts h =
    ap (punctuate fresh) (lex_ends ts false (codes "\n") [] h refl refl refl ∙ ap (lex between) (append-nil (print ts))) ∙ tokens-print ts h

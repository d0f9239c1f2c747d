-- The number or order of an option or a word, from what the getters of clap's matches give.
use Rattle.std.proofs.Common.{ℕ, List, ◌≡◌, codes, refl, Option}
use Rattle.std.specs.Prelude.{option_and_then}
use Rattle.clap.specs.Words.{first_value, rows_of}
use Rattle.clap.specs.declared.parser.matches.Found.{Found}
use Rattle.clap.proofs.WalkLemmas.{first_value-rows}
use Rattle.tool_words.specs.Limits.{number_found, number_given, number_said, number_within}
use Rattle.tool_words.specs.Orders.{order_found, order_given}
use Rattle.tool_words.specs.declared.limit.Limit.{Limit}

pub number_found_is : (limit : Limit) (found : Found) (name : List ℕ) (value : Option (List ℕ)) → value ≡ first_value found name
    → number_given limit value ≡ number_found limit name (rows_of found)
number_found_is limit found name value is = rw (is, first_value-rows found name) refl

pub number_said_is : (limit : Limit) (found : Found) (name : List ℕ) (value : Option (List ℕ)) → value ≡ first_value found name
    → option_and_then (number_within limit) value ≡ number_said limit name (rows_of found)
number_said_is limit found name value is = rw (is, first_value-rows found name) refl

pub order_found_is : (found : Found) (value : Option (List ℕ)) → value ≡ first_value found (codes "order") → order_given value ≡ order_found (rows_of found)
order_found_is found value is = rw (is, first_value-rows found (codes "order")) refl

-- Pieces of a text that are joined, the same with the first in front.
use Rattle.std.proofs.Common.{◌≡◌, ℕ, List, ◌++◌, append_assoc}

pub two_pieces : (h a rest : List ℕ) → (h ++ a) ++ rest ≡ h ++ (a ++ rest)
two_pieces h a rest = simp append_assoc

pub three_pieces : (h a e rest : List ℕ) → ((h ++ a) ++ e) ++ rest ≡ h ++ (a ++ (e ++ rest))
three_pieces h a e rest = simp append_assoc

pub five_pieces : (h a m b e rest : List ℕ) →
    ((((h ++ a) ++ m) ++ b) ++ e) ++ rest ≡ h ++ (a ++ (m ++ (b ++ (e ++ rest))))
five_pieces h a m b e rest = simp append_assoc

pub seven_pieces : (h a m b n c e rest : List ℕ) →
    ((((((h ++ a) ++ m) ++ b) ++ n) ++ c) ++ e) ++ rest ≡ h ++ (a ++ (m ++ (b ++ (n ++ (c ++ (e ++ rest))))))
seven_pieces h a m b n c e rest = simp append_assoc

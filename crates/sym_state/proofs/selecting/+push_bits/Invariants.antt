use Rattle.sym_state.proofs.selecting.+push_bits.Given as goal

-- proposed from what the function passes where it calls itself
abbrev pub decreases-push_bits : goal.decreases-push_bits
decreases-push_bits l = l.count

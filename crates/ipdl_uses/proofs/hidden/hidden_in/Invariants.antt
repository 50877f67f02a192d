use Rattle.std.proofs.Common.{◌≡◌, ◌||◌, map}
use Rattle.std.proofs.Common.{drop}
use Rattle.ipdl_term.specs.Channels.{has}
use Rattle.ipdl_term.specs.Terms.{Channel}
use Rattle.ipdl_term.specs.Views.{protocol_of}
use Rattle.ipdl_uses.specs.Lemmas.{hidden_in_terms}
use Rattle.ipdl_uses.proofs.hidden.hidden_in.Given as goal

-- with those of the terms that are left they are all
abbrev pub invariant-loop-term : goal.invariant-loop-term
invariant-loop-term l =
    (c : Channel) → (has (hidden_in_terms (map protocol_of (drop l.term-index l.terms))) c || has l.names c) ≡ has (hidden_in_terms (map protocol_of l.terms)) c

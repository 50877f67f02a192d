use Rattle.std.proofs.Common.{◌≡◌, drop, map, take, Some}
use Rattle.std.specs.Borrow.{Bor}
use Rattle.std.specs.Prelude.{All}
use Rattle.ipdl_script.specs.Adding.{whole_in}
use Rattle.ipdl_script.specs.Steps.{KeepsLimits, extent_tests, first_refusal}
use Rattle.ipdl_term.specs.Places.{context_at}
use Rattle.ipdl_term.specs.Terms.{Context}
use Rattle.ipdl_term.specs.Views.{protocol_of}
use Rattle.ipdl_term.specs.declared.protocol.Proto.{Proto}
use Rattle.ipdl_script.proofs.whole_terms.whole_terms.Given as goal

abbrev pub invariant-loop-term : goal.invariant-loop-term
invariant-loop-term l = record {
  test : (C : Context) → context_at (protocol_of l.before) l.path ≡ Some C →
      first_refusal (extent_tests (map (λ (term : Bor Proto). whole_in C l.renaming term.now) l.terms))
      ≡ first_refusal (extent_tests (map (λ (term : Bor Proto). whole_in C l.renaming term.now) (drop l.term-index l.terms)));
  value : (C : Context) → context_at (protocol_of l.before) l.path ≡ Some C →
      map protocol_of l.whole ≡ map (λ (term : Bor Proto). whole_in C l.renaming term.now) (take l.term-index l.terms);
  limits : All (λ (term : Proto). KeepsLimits (protocol_of term)) l.whole;
}

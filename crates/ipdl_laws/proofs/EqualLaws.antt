-- Equality of typed protocols is an equivalence.
use Rattle.std.proofs.Common.{◌+◌, ◌^◌, List, refl, sym, ◌∙◌, arith, pow_pos}
use Rattle.ipdl_term.specs.Contexts.{plugged}
use Rattle.ipdl_term.specs.Equality.{Equal}
use Rattle.ipdl_term.specs.Interpretations.{Signature}
use Rattle.ipdl_term.specs.Protocols.{coins, written}
use Rattle.ipdl_term.specs.Terms.{Channel, Protocol}
use Rattle.ipdl_term.specs.Typing.{Scope, Typed}
use Rattle.ipdl_laws.proofs.FurtherBits.{history_count_more}
use Rattle.ipdl_laws.proofs.Totals.{cancelled}

-- a typed protocol itself
pub equal_refl : (sig : Signature) (scope : Scope) (written : List Channel) (p : Protocol) → Typed sig scope p written → Equal sig scope written p p
equal_refl sig scope written p typed = record { left = typed; right = typed; counts = λ J interprets C closes n hp hq h. refl }

-- the other way round
pub equal_sym : (sig : Signature) (scope : Scope) (written : List Channel) (p q : Protocol) → Equal sig scope written p q → Equal sig scope written q p
equal_sym sig scope written p q equal = record {
  left = equal.right;
  right = equal.left;
  counts = λ J interprets C closes n hq hp h. sym (equal.counts J interprets C closes n hp hq h);
}

-- at tapes long enough for the middle one too, and back by the powers of two
pub equal_trans : (sig : Signature) (scope : Scope) (written : List Channel) (p q r : Protocol) → Equal sig scope written p q → Equal sig scope written q r → Equal sig scope written p r
equal_trans sig scope written p q r equal further = record {
  left = equal.left;
  right = further.right;
  counts = λ J interprets C closes n hp hr h.
      let k = coins (plugged C q) in
      cancelled (2 ^ k) _ _ (pow_pos k) (
      sym (history_count_more J (plugged C p) n k h hp) ∙
      equal.counts J interprets C closes (n + k) (omega arith) (omega arith) h ∙
      further.counts J interprets C closes (n + k) (omega arith) (omega arith) h ∙
      history_count_more J (plugged C r) n k h hr);
}

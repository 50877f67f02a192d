-- What stands at a place that has a context, and new names of which none is captured.
use Rattle.std.proofs.Common.{◌≡◌, ℕ, zero, suc, Bool, true, false, ◌||◌, List, [], ◌∷◌, Option, Some, None, slice_get, refl, sym, ap, ◌∙◌, if◌then◌else◌}
use Rattle.std.proofs.lemmas.Bool.{false≢true}
use Rattle.std.proofs.lemmas.Result.{IfOk-weaker}
use Rattle.std.specs.Map.{values_of}
use Rattle.std.specs.Prelude.{IfOk, IsSomeAnd, Result, option_map}
use Rattle.ipdl_embed.specs.Captures.{captured, TellsCapture}
use Rattle.ipdl_embed.specs.Pairs.{Pairs}
use Rattle.ipdl_embed.specs.declared.fault.EmbedFault.{EmbedFault}
use Rattle.ipdl_embed.specs.declared.fault.EmbedFault.TheVariants.{NoChannel, NotInjective, Capture, Memory}
use Rattle.ipdl_instances.proofs.Instances.{place_of_context}
use Rattle.ipdl_term.proofs.ChannelSets.{same_channel-itself}
use Rattle.ipdl_term.specs.Channels.{has, same_channel, AreDisjoint, intersection}
use Rattle.ipdl_term.specs.Contexts.{plugged}
use Rattle.ipdl_term.specs.Places.{AreOfOneKind, context_at, term_at, term_with}
use Rattle.ipdl_term.specs.Terms.{Channel, Protocol, parallel, hiding, Context, in_left, in_right, in_hiding, Term, protocol_term}
use Rattle.ipdl_term.specs.Views.{protocol_of}
use Rattle.ipdl_term.specs.declared.protocol.Proto.{Proto}

-- ---- places

-- what an optional context that is put into another one was
made_of : (f : Context → Context) (o : Option Context) (C : Context) → option_map f o ≡ Some C → (D : Context) × (o ≡ Some D)
made_of f None C is = cc
made_of f (Some D) C is = (D, refl)

-- a protocol stands at a place that has a context
pub stands_there : (p : Protocol) (place : List ℕ) (C : Context) → context_at p place ≡ Some C → (q : Protocol) × (term_at (protocol_term p) place ≡ Some (protocol_term q))
stands_there p [] C is = (p, refl)
stands_there (parallel p q) (zero ∷ place) C is =
    let inner = made_of (λ D. in_left D q) (context_at p place) C is in
    stands_there p place inner.0 inner.1
stands_there (parallel p q) (suc zero ∷ place) C is =
    let inner = made_of (λ D. in_right p D) (context_at q place) C is in
    stands_there q place inner.0 inner.1
stands_there (hiding c w p) (zero ∷ place) C is =
    let inner = made_of (λ D. in_hiding c w D) (context_at p place) C is in
    stands_there p place inner.0 inner.1
stands_there _ _ C is = cc

-- so another protocol may come there
pub of_its_kind : (p : Protocol) (place : List ℕ) (new : Protocol) (t : Term) → t ≡ protocol_term new → (C : Context) × (context_at p place ≡ Some C) → IsSomeAnd (term_at (protocol_term p) place) (λ old. AreOfOneKind old t)
of_its_kind p place new t is around_it =
    let there = stands_there p place around_it.0 around_it.1 in
    rw (there.1, is) tt

pub placed : (p : Protocol) (place : List ℕ) (new : Protocol) (t : Term) (whole : Protocol) (C : Context) → t ≡ protocol_term new → protocol_term whole ≡ term_with (protocol_term p) place t → context_at p place ≡ Some C → whole ≡ plugged C new
placed p place new t whole C is made around_it =
    let there = stands_there p place C around_it in
    let found = place_of_context p place C there.0 around_it there.1 in
    let same : protocol_term whole ≡ protocol_term (plugged C new) = made ∙ ap (term_with (protocol_term p) place) is ∙ found.1 new in cc

pub placed_if_made : {E : Type 0} (r : Result Proto E) (p : Protocol) (place : List ℕ) (new : Protocol) (t : Term) (C : Context) → t ≡ protocol_term new → context_at p place ≡ Some C → IfOk r (λ whole. protocol_term (protocol_of whole) ≡ term_with (protocol_term p) place t) → IfOk r (λ whole. protocol_of whole ≡ plugged C new)
placed_if_made r p place new t C is around_it made =
    IfOk-weaker r (λ whole. protocol_term (protocol_of whole) ≡ term_with (protocol_term p) place t) (λ whole. protocol_of whole ≡ plugged C new) (λ whole with_it. placed p place new t (protocol_of whole) C is with_it around_it) made

-- ---- captures

-- where no new name is hidden none is captured
none_among : (names hidden : List Channel) → AreDisjoint names hidden → intersection hidden names ≡ []
none_among names [] apart = refl
none_among names (c ∷ hidden) apart = go (has names c) refl (none_among names hidden later)
  where
    or_true : (b : Bool) → (b || true) ≡ true
    or_true true = refl
    or_true false = refl

    later : AreDisjoint names hidden
    later d there = right (same_channel c d) (has hidden d) (apart d there)
      where
        right : (a b : Bool) → (a || b) ≡ false → b ≡ false
        right true b e = absurd (false≢true (sym e))
        right false b e = e

    go : (b : Bool) → has names c ≡ b → intersection hidden names ≡ [] → (if b then (c ∷ intersection hidden names) else intersection hidden names) ≡ []
    go true e none = absurd (false≢true (sym (apart c e) ∙ ap (λ b. b || has hidden c) (same_channel-itself c)))
    go false e none = none

-- so memory alone may be wanting
pub memory_alone : (pairs : Pairs) (hidden : List Channel) (fault : EmbedFault) → AreDisjoint (values_of pairs) hidden → TellsCapture pairs hidden fault → fault ≡ Memory
memory_alone pairs hidden (NoChannel c) apart told = absurd told
memory_alone pairs hidden (NotInjective c d) apart told = absurd told
memory_alone pairs hidden (Capture c) apart told =
    let none : slice_get (captured pairs hidden) 0 ≡ None = ap (λ cs. slice_get cs 0) (none_among (values_of pairs) hidden apart) in
    let clash : None ≡ Some c = sym none ∙ told in cc
memory_alone pairs hidden Memory apart told = refl

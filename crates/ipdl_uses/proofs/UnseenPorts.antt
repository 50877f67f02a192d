-- The new name of the first port that does not fit.
use Rattle.std.proofs.Common.{◌≡◌, ℕ, zero, suc, ◌+◌, ◌<◌, Bool, true, false, ◌||◌, List, [], ◌∷◌, ◌++◌, length, get_or, slice_get, Option, Some, None, refl, sym, ap, ◌∙◌, if◌then◌else◌, arith}
use Rattle.std.proofs.lemmas.Bool.{false≢true}
use Rattle.std.specs.Map.{values_of}
use Rattle.std.specs.Prelude.{option_map}
use Rattle.ipdl_embed.specs.Completing.{completed}
use Rattle.ipdl_embed.specs.Fitting.{first_unfit, is_visible}
use Rattle.ipdl_embed.specs.Pairs.{Pairs, named}
use Rattle.ipdl_term.proofs.ChannelSets.{same_channel-itself, same_channel-sound}
use Rattle.ipdl_term.specs.Channels.{has, same_channel}
use Rattle.ipdl_term.specs.Renaming.{Renaming, renaming_of}
use Rattle.ipdl_term.specs.Terms.{Channel}
use Rattle.ipdl_term.specs.Typing.{Scope, port_names}
use Rattle.ipdl_term.specs.declared.interface.Interface.{Interface}
use Rattle.ipdl_term.specs.declared.interface.Port.{Port}
use Rattle.ipdl_uses.specs.Usable.{new_name_of, no_port, port_refusal}

or_true : (b : Bool) → (b || true) ≡ true
or_true true = refl
or_true false = refl

-- the number is that of a port
unfit_within : (scope : Scope) (f : Renaming) (ports : List Port) (n : ℕ) → first_unfit scope f ports ≡ Some n → n < length ports
unfit_within scope f [] n is = cc
unfit_within scope f (port ∷ ports) n is = go (is_visible scope f port) (first_unfit scope f ports) refl is (unfit_within scope f ports)
  where
    go : (b : Bool) (o : Option ℕ) → first_unfit scope f ports ≡ o → (if b then option_map (λ k. k + 1) o else Some 0) ≡ Some n → ((k : ℕ) → first_unfit scope f ports ≡ Some k → k < length ports) → n < suc (length ports)
    go false o e is within = let first : 0 ≡ n = cc in omega (arith, first)
    go true None e is within = cc
    go true (Some k) e is within = let next : k + 1 ≡ n = cc in omega (arith, next, within k e)

-- the new name of a channel that has a pair
renaming_of-named : (f : Renaming) (cs : List Channel) (c : Channel) → has cs c ≡ true → renaming_of (named f cs) c ≡ f c
renaming_of-named f [] c there = absurd (false≢true there)
renaming_of-named f (d ∷ cs) c there = go (same_channel d c) refl there (renaming_of-named f cs c)
  where
    go : (b : Bool) → same_channel d c ≡ b → (b || has cs c) ≡ true → (has cs c ≡ true → renaming_of (named f cs) c ≡ f c) → (if b then f d else renaming_of (named f cs) c) ≡ f c
    go true e h later = ap f (same_channel-sound d c e)
    go false e h later = later h

-- the new name of this number is that of the port of this number
name_at : (f : Renaming) (cs : List Channel) (ports : List Port) (n : ℕ) (name : Channel) → ((c : Channel) → has (port_names ports) c ≡ true → has cs c ≡ true) → slice_get (values_of (named f (port_names ports))) n ≡ Some name → name ≡ new_name_of (named f cs) (slice_get ports n)
name_at f cs [] n name all at = cc
name_at f cs (port ∷ ports) zero name all at =
    let first : f port.name ≡ name = cc in
    sym first
    ∙ sym (renaming_of-named f cs port.name (all port.name (ap (λ b. b || has (port_names ports) port.name) (same_channel-itself port.name))))
name_at f cs (port ∷ ports) (suc n) name all at =
    name_at f cs ports n name (λ c h. all c (ap (λ b. same_channel port.name c || b) h ∙ or_true (same_channel port.name c))) at

-- of a pair
pub new_name_there : (pairs : Pairs) (n : ℕ) (pair : Channel × Channel) → n < length pairs → pair ≡ get_or pairs n pair → slice_get (values_of pairs) n ≡ Some pair.1
new_name_there [] n pair within at = absurd (omega arith)
new_name_there (first ∷ pairs) zero pair within at = ap (λ (p : Channel × Channel). Some p.1) (sym at)
new_name_there (first ∷ pairs) (suc n) pair within at = new_name_there pairs n pair (omega arith) at

length-named : (f : Renaming) (ports : List Port) → length (named f (port_names ports)) ≡ length ports
length-named f [] = refl
length-named f (port ∷ ports) = ap suc (length-named f ports)

module _ (i : Interface) (scope : Scope) (pairs : Pairs) (made : (given : Pairs) × (pairs ≡ completed i given)) where
  -- there is a pair of the number
  pub pair_there : (n : ℕ) → first_unfit scope (renaming_of pairs) (i.inputs ++ i.outputs) ≡ Some n → n < length pairs
  pair_there n is =
      let within = unfit_within scope (renaming_of pairs) (i.inputs ++ i.outputs) n is in
      let same : length pairs ≡ length (i.inputs ++ i.outputs) = ap length made.1 ∙ length-named (renaming_of made.0) (i.inputs ++ i.outputs) in
      omega (arith, within, same)

  -- and its new name is told
  pub port_told : (n : ℕ) (name : Channel) → first_unfit scope (renaming_of pairs) (i.inputs ++ i.outputs) ≡ Some n → slice_get (values_of pairs) n ≡ Some name → port_refusal i scope pairs ≡ Some (no_port name)
  port_told n name is at =
      let ports = i.inputs ++ i.outputs in
      let f = renaming_of made.0 in
      let at_pair : slice_get (values_of (named f (port_names ports))) n ≡ Some name = ap (λ ps. slice_get (values_of ps) n) (sym made.1) ∙ at in
      let its_name : name ≡ new_name_of pairs (slice_get ports n) =
      name_at f (port_names ports) ports n name (λ c h. h) at_pair ∙ ap (λ ps. new_name_of ps (slice_get ports n)) (sym made.1) in
      ap (option_map (λ k. no_port (new_name_of pairs (slice_get ports k)))) is ∙ ap (λ c. Some (no_port c)) (sym its_name)

-- What the types of the program stand for: what is known, a use of it, and why it may not be used.
use Rattle.std.specs.Prelude.{◌≡◌, ℕ, List, Option, Some}
use Rattle.ipdl_chain.specs.Chains.{Chain}
use Rattle.ipdl_chain.specs.Views.{HasOneTermMore, IsWithin, chain_of}
use Rattle.ipdl_chain.specs.declared.chain.Chain.{Chain as HeldChain}
use Rattle.ipdl_term.specs.Channels.{SameSet}
use Rattle.ipdl_term.specs.Views.{protocol_of, context_of}
use Rattle.ipdl_term.specs.Within.{IsProtocolWithin}
use Rattle.ipdl_term.specs.declared.interface.Interface.{Interface}
use Rattle.ipdl_uses.specs.Lemmas.{Lemma, assumed_chain, hidden_in_chain}
use Rattle.ipdl_uses.specs.Usable.{UseRefusal, no_channel, not_injective, captured, not_side, no_port}
use Rattle.ipdl_uses.specs.Uses.{Use}
use Rattle.ipdl_uses.specs.declared.fault.UseFault.{UseFault}
use Rattle.ipdl_uses.specs.declared.fault.UseFault.TheVariants as F
use Rattle.ipdl_uses.specs.declared.known.Claim.{Claim}
use Rattle.ipdl_uses.specs.declared.known.Claim.TheVariants.{Assumption, Theorem}
use Rattle.ipdl_uses.specs.declared.known.Known.{Known}
use Rattle.ipdl_uses.specs.declared.site.Site.{Site}

-- ---- what is known

abbrev pub claim_chain : (name : List ℕ) → Interface → Claim → Chain
claim_chain name i (Assumption left right) = assumed_chain name i (protocol_of left.now) (protocol_of right.now)
claim_chain name i (Theorem chain) = chain_of chain.now

abbrev pub lemma_of : Known → Lemma
lemma_of known =
    record { interface = known.interface.now; chain = claim_chain known.name.now known.interface.now known.claim }

-- a chain as it is kept: whole, with symbols among the first so many, and with all of its hidden channels
pub record IsKept (symbols : ℕ) (chain : HeldChain) : Type 0 where
  pub complete : HasOneTermMore chain
  pub within : IsWithin symbols chain
  pub hidden : SameSet chain.hidden (hidden_in_chain (chain_of chain))

-- what is known of what may be used
abbrev pub IsKeptClaim : (symbols : ℕ) → Claim → Type 0
IsKeptClaim symbols (Assumption left right) =
    IsProtocolWithin symbols (protocol_of left.now) × IsProtocolWithin symbols (protocol_of right.now)
IsKeptClaim symbols (Theorem chain) = IsKept symbols chain.now

-- ---- uses

-- the use of the name at the site
abbrev pub use_at : (name : List ℕ) → Site → Use
use_at name site =
    record { name = name; place = site.path.now; around = context_of site.ctx.now; pairs = site.renaming.now }

-- ---- faults

-- the fault is the refusal; that memory ran out tells nothing
abbrev pub TellsUse : UseFault → Option UseRefusal → Type 0
TellsUse (F.NoChannel c) refusal = refusal ≡ Some (no_channel c)
TellsUse (F.NotInjective c d) refusal = refusal ≡ Some (not_injective c d)
TellsUse (F.Captured c) refusal = refusal ≡ Some (captured c)
TellsUse F.NotSide refusal = refusal ≡ Some not_side
TellsUse (F.NoPort c) refusal = refusal ≡ Some (no_port c)
TellsUse F.Memory refusal = Unit {0}

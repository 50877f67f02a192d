-- The limits: the one place where their numbers stand.
use Rattle.std.specs.Prelude.{ℕ}
use Rattle.ipdl_base.specs.declared.limit.Limit.{Limit}
use Rattle.ipdl_base.specs.declared.limit.Limit.TheVariants.{Source, Depth, Items, Channels, Nodes, Steps, Chain, Output, Coins}

-- the greatest count that is allowed
abbrev pub limit_number : Limit → ℕ
limit_number Source = 1_048_576
limit_number Depth = 200
limit_number Items = 512
limit_number Channels = 512
limit_number Nodes = 4_096
limit_number Steps = 2_048
limit_number Chain = 8_192
limit_number Output = 16_777_216
limit_number Coins = 16

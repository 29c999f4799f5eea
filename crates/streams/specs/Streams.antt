-- What the contracts about reading cite. Which bytes the system has, and whether a read of it fails, no contract can say.
use Rattle.std.specs.Prelude.{◌≡◌, Bool, true, false, List, ℕ, ◌<◌, length, take, Option, Result, Ok, Err}
use Rattle.std.specs.Io.KnownBytes.{Consumes, IsAtEnd}
use Rattle.io.specs.Counts.{IsPrefixLen}
use Rattle.streams.specs.declared.Failed.{Failed}

-- what came: how many bytes, none where a read failed
pub record Got : Type 0 where
  pub failed : Bool
  pub count : ℕ

abbrev pub got : Result ℕ Failed → Got
got (Ok n) = record { failed = false; count = n }
got (Err f) = record { failed = true; count = 0 }

-- what a stream answered, with its failure said
abbrev pub said : {A E : Type 0} → Result A E → Result A Failed
said (Ok a) = Ok a
said (Err e) = Err (record {})

-- the bytes that came stand at the start of the space; where a read failed there are none
pub record Received (space : List ℕ) (r : Got) : Type 0 where
  pub counts : IsPrefixLen r.count space
  pub none : r.failed ≡ true → r.count ≡ 0

-- where it is known which bytes the input has left before and after: unless a read failed, those that came are the next ones, and they are
-- fewer than the space has room for only at the end of the input
pub record NextBytes (before after : Option (List ℕ)) (space : List ℕ) (r : Got) : Type 0 where
  pub next : r.failed ≡ false → Consumes before after (take r.count space)
  pub fewer : r.failed ≡ false → r.count < length space → IsAtEnd after

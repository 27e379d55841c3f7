-- The running rule.
use Rattle.std.specs.Prelude.{◌≡◌, ℕ, ◌+◌, ◌-◌, ◌*◌, ◌/◌, List, take, sum}
use Rattle.prorating.specs.Shares.{shared_by}

-- pot × first k weights ÷ total, rounded down
unfoldable pub part_to : ℕ → List ℕ → ℕ → ℕ
part_to pot ws k = pot * sum (take k ws) / sum ws

-- The share of the place k + 1: the pot's part for the first k + 1 places less that for the first k.
unfoldable pub running_share : ℕ → List ℕ → ℕ → ℕ
running_share pot ws k = part_to pot ws (k + 1) - part_to pot ws k

abbrev pub running : ℕ → List ℕ → List ℕ
running pot ws = shared_by (running_share pot ws) pot ws

-- What makes shares those of the running rule: for every k, the first k of them add up to pot × first k weights ÷ total, rounded down.
abbrev pub RunningSums : ℕ → List ℕ → List ℕ → Type 0
RunningSums pot ws shares = (k : ℕ) → sum (take k shares) ≡ pot * sum (take k ws) / sum ws

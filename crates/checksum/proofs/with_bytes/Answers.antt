-- `checksum::with_bytes` meets its contract. Assumes nothing.
use Rattle.std.proofs.Common.{◌≡◌, List, [], ◌∷◌, ℕ, refl, rules, ◌∙◌}
use Rattle.std.specs.List.{fold}
use Rattle.checksum.specs.Checksum.{with_byte, with_bytes}
use Rattle.checksum.proofs.with_bytes.Goals as goal

folded : (c : ℕ) (bs : List ℕ) → fold with_byte c bs ≡ with_bytes c bs
unfolding with_bytes
folded c [] = refl
folded c (b ∷ bs) = folded (with_byte c b) bs

pub returns : goal.returns
returns c = let run : c.fold.result ≡ fold with_byte c.args.crc c.args.bytes.now = search rules in run ∙ folded _ _

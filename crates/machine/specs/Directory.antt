-- Request A.3, "A directory of resident pages": when it agrees with the records. Its bytes and chains, what loading and eviction do to it, and how a page is sought in it stand in chains/specs/Chain.
use Rattle.std.specs.Prelude.{ℕ, Bool, not, List, eqb, get_or}
use Rattle.page.specs.Figures.{record_count}
use Rattle.machine.specs.declared.Pool.{Pool}
use Rattle.rules.specs.Tests.{◌⇒◌, every, ◌and◌}
use Rattle.chains.specs.Chain.{buckets, bucket_of, link_at, chain_of, has, each_of, once, tally}
use Rattle.machine.specs.Machine.{page_in, occupied}

-- frame f has a resident page whose remainder is b
unfoldable pub belongs : Pool → ℕ → ℕ → Bool
belongs p b f = occupied p f and eqb (bucket_of (page_in p.records f)) b

-- chain b gives resident pages of its remainder, no others, each once
unfoldable pub chain_right : Pool → ℕ → List ℕ → Bool
chain_right p b chain = each_of (belongs p b) chain and once chain

-- chains give resident pages "of their remainders", no others, "each once in any order"
unfoldable pub chains_right : Pool → List ℕ → Bool
chains_right p d = every buckets (λ b. chain_right p b (chain_of d b))

-- and "exactly" those: every resident page is in its chain
unfoldable pub chains_whole : Pool → List ℕ → Bool
chains_whole p d = every p.count (λ f. occupied p f ⇒ has f (chain_of d (bucket_of (page_in p.records f))))

-- "another byte" is the link of a frame in no chain: an empty one, or one from F on
unfoldable pub others_zero : Pool → List ℕ → Bool
others_zero p d = every record_count (λ f. not (occupied p f) ⇒ eqb (get_or d (link_at f) 0) 0)

-- "one whose chains don't give exactly the resident pages of their remainders, each once in any order, or with another byte not 0, under 2"
unfoldable pub chains_agree : Pool → List ℕ → Bool
chains_agree p d = chains_right p d and chains_whole p d and others_zero p d

-- "the number of resident pages with that remainder"
abbrev pub residents_of : Pool → ℕ → ℕ
residents_of p b = tally p.count (belongs p b)

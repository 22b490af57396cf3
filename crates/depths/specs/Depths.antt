-- Request A.12, "How many frames to buy": the depth of a reference, and the cache that it tells of. A reference is a page number. The references before one stand in a list, the last of them first.
use Rattle.std.specs.Prelude.{ℕ, zero, suc, ◌+◌, Bool, false, List, [], ◌∷◌, eqb, leb, ltb, length}
use Rattle.rules.specs.Tests.{pick, ◌or◌}

-- is the page one of these
unfoldable pub is_in : ℕ → List ℕ → Bool
is_in p [] = false
is_in p (x ∷ l) = eqb x p or is_in p l

-- ---- "The depth of a reference is 1 plus the count of different other pages since the last one to the same page; a first reference in its recording has none."

-- the references since the last one to p
unfoldable pub since : ℕ → List ℕ → List ℕ
since p [] = []
since p (x ∷ h) = pick (eqb x p) [] (x ∷ since p h)

-- the count of different pages
unfoldable pub different : List ℕ → ℕ
different [] = 0
different (x ∷ l) = pick (is_in x l) 0 1 + different l

-- the depth of a reference to p after the references h; 0 stands for none
unfoldable pub depth : List ℕ → ℕ → ℕ
depth h p = pick (is_in p h) (1 + different (since p h)) 0

-- the depths of the references ps, in their order, after h
unfoldable pub depths_after : List ℕ → List ℕ → List ℕ
depths_after h [] = []
depths_after h (p ∷ ps) = depth h p ∷ depths_after (p ∷ h) ps

-- the depths of a recording
abbrev pub depths : List ℕ → List ℕ
depths ps = depths_after [] ps

-- how many of these are depths up to f
unfoldable pub is_up_to : ℕ → ℕ → Bool
is_up_to f zero = false
is_up_to f (suc d) = leb (suc d) f

unfoldable pub depths_up_to : ℕ → List ℕ → ℕ
depths_up_to f [] = 0
depths_up_to f (d ∷ ds) = pick (is_up_to f d) 1 0 + depths_up_to f ds

-- how many of these are the depth d
unfoldable pub depths_at : ℕ → List ℕ → ℕ
depths_at d [] = 0
depths_at d (x ∷ ds) = pick (eqb x d) 1 0 + depths_at d ds

-- ---- "a flat cache of f pages without pins, empty at each recording's start, replacing the least recently used": the pages that it holds, the last used first, so that the least recently used is the last of the list

unfoldable pub without_page : ℕ → List ℕ → List ℕ
without_page p [] = []
without_page p (x ∷ l) = pick (eqb x p) l (x ∷ without_page p l)

unfoldable pub without_last : List ℕ → List ℕ
without_last [] = []
without_last (x ∷ []) = []
without_last (x ∷ y ∷ l) = x ∷ without_last (y ∷ l)

-- p in place of the least recently used; where none is held, there is no place
unfoldable pub replaced : ℕ → List ℕ → List ℕ
replaced p [] = []
replaced p (x ∷ l) = p ∷ without_last (x ∷ l)

-- the cache after a reference to p: a page that it holds is now the last used; another one comes in, and if f pages are held already, in place of one
unfoldable pub after_use : ℕ → List ℕ → ℕ → List ℕ
after_use f c p = pick (is_in p c) (p ∷ without_page p c) (pick (ltb (length c) f) (p ∷ c) (replaced p c))

-- the cache after the references h
unfoldable pub cache : ℕ → List ℕ → List ℕ
cache f [] = []
cache f (p ∷ h) = after_use f (cache f h) p

-- the hits of the references ps, in their order, after h
unfoldable pub hits_after : ℕ → List ℕ → List ℕ → ℕ
hits_after f h [] = 0
hits_after f h (p ∷ ps) = pick (is_in p (cache f h)) 1 0 + hits_after f (p ∷ h) ps

-- the hits of a recording
abbrev pub hits_of : ℕ → List ℕ → ℕ
hits_of f ps = hits_after f [] ps

-- the time of the last reference to p: how many references there were by then; 0 for none
unfoldable pub last_use : List ℕ → ℕ → ℕ
last_use [] p = 0
last_use (x ∷ h) p = pick (eqb x p) (suc (length h)) (last_use h p)

-- the recency list: the pages of the references h, each once, the last used first
unfoldable pub recency : List ℕ → List ℕ
recency [] = []
recency (p ∷ h) = p ∷ without_page p (recency h)

-- Words that ask for work at a setting name at least one red pebble, words that ask for a certificate one file, and words that ask for
-- matrix products none.
use Rattle.std.proofs.Common.{◌≡◌, subst, refl, ℕ, zero, suc, ◌-◌, ◌^◌, ◌≤◌, Bool, true, false, List, [], ◌∷◌, length, take, drop, arith}
use Rattle.std.specs.Prelude.{⊤, Option, None, Some, IfSome, option_map, option_and_then, if◌then◌else◌, ◌&&◌, ◌==◌, nat_le, sum, codes, bytes_eq}
use Rattle.std.specs.List.{AllByRecursion, list_any, slice_split}
use Rattle.std.proofs.lemmas.Bool.{eqb-true}
use Rattle.command_words.specs.Numbers.{capacities_in, if_levels, if_within, memories_in, memory_in, natural_in, processors_in, products_in}
use Rattle.command_words.specs.Requests.{Request, Work, checks, evaluates, shares, levels, judges, replays, climbs, bounds_traffic, bounds, samples, begins_with_dash, climbing, evaluation, levelling, other_request, replay, request_in, request_of, sample_in, sampling, sharing, sharing_in, sized_request, traffic, traffic_in, work_on}
use Rattle.command_words.specs.Settings.{NamedLevels, NamedSetting, levels_in, setting_in}
use Rattle.command_words.specs.Sizes.{NamedSize, sizes_in}
use Rattle.iolb_model.specs.declared.limits.TheConstants.{LEVELS, PROCESSORS}

abbrev pub IsFormed : Request → Work → Type 0
IsFormed request (judges checks) = ⊤
IsFormed request (judges (evaluates s named)) = 1 ≤ s
IsFormed request (judges (shares processors s named)) = (1 ≤ processors) × (1 ≤ s)
IsFormed request (judges (levels capacities named)) = AllByRecursion (λ capacity. 1 ≤ capacity) capacities
IsFormed request (replays s named) = 1 ≤ s
IsFormed request (climbs capacities named) = ⊤
IsFormed request (bounds_traffic s named) = ⊤
IsFormed request bounds = length request.files ≡ 1
IsFormed request (samples products) = length request.files ≡ 0

-- a request that is, if there is one
abbrev pub AreFormed : Option Request → Type 0
AreFormed o = IfSome o (λ request. IsFormed request request.work)

every : {A : Type 0} (P : Type 0) (o : Option A) → P → IfSome o (λ _. P)
every P None p = tt
every P (Some a) p = p

mapped : {A B : Type 0} (f : A → B) (P : B → Type 0) (o : Option A) → IfSome o (λ a. P (f a)) → IfSome (option_map f o) P
mapped f P None h = tt
mapped f P (Some a) h = h

chained : {A B : Type 0} (f : A → Option B) (Q : A → Type 0) (P : B → Type 0) (o : Option A) → IfSome o Q → ((a : A) → Q a → IfSome (f a) P)
    → IfSome (option_and_then f o) P
chained f Q P None h next = tt
chained f Q P (Some a) h next = next a h

chosen : {A : Type 0} (test : Bool) (P : A → Type 0) (one other : Option A) → IfSome one P → IfSome other P → IfSome (if test then one else other) P
chosen true P one other p q = p
chosen false P one other p q = q

within : (most n : ℕ) → IfSome (if_within 1 most n) (λ s. 1 ≤ s)
within most zero = tt
within most (suc n) = chosen (nat_le 1 (suc n) && nat_le (suc n) most) (λ s. 1 ≤ s) (Some (suc n)) None (omega arith) tt

memory : (word : List ℕ) → IfSome (memory_in word) (λ s. 1 ≤ s)
memory word = chained (if_within 1 (2 ^ 63 - 1)) (λ _. ⊤) (λ s. 1 ≤ s) (natural_in 19 word) (every ⊤ (natural_in 19 word) tt) (λ n _. within (2 ^ 63 - 1) n)

processor : (word : List ℕ) → IfSome (processors_in word) (λ p. 1 ≤ p)
processor word = chained (if_within 1 PROCESSORS) (λ _. ⊤) (λ p. 1 ≤ p) (natural_in 7 word) (every ⊤ (natural_in 7 word) tt) (λ n _. within PROCESSORS n)

setting : (words : List (List ℕ)) → IfSome (setting_in words) (λ said. 1 ≤ said.s)
setting [] = tt
setting (word ∷ words) =
    chained (λ s. option_map (with s) (sizes_in words)) (λ s. 1 ≤ s) (λ (said : NamedSetting). 1 ≤ said.s) (memory_in word) (memory word)
    (λ s some. mapped (with s) (λ (said : NamedSetting). 1 ≤ said.s) (sizes_in words) (every (1 ≤ s) (sizes_in words) some)) where
      with : ℕ → List NamedSize → NamedSetting
      with s named = record { s = s; named = named }

-- each of these is at least 1
abbrev AreSome : List ℕ → Type 0
AreSome numbers = AllByRecursion (λ number. 1 ≤ number) numbers

memories : (words : List (List ℕ)) → IfSome (memories_in words) AreSome
memories [] = tt
memories (word ∷ words) =
    chained (λ s. option_map (λ others. s ∷ others) (memories_in words)) (λ s. 1 ≤ s) AreSome (memory_in word) (memory word)
    (λ s some. mapped (λ others. s ∷ others) AreSome (memories_in words) (both s some (memories_in words) (memories words))) where
      both : (s : ℕ) → 1 ≤ s → (o : Option (List ℕ)) → IfSome o AreSome → IfSome o (λ others. AreSome (s ∷ others))
      both s some None are = tt
      both s some (Some others) are = (some, are)

held : (word : List ℕ) → IfSome (capacities_in word) AreSome
held word = chained if_levels AreSome AreSome (memories_in (slice_split (λ byte. byte == 44) word)) (memories (slice_split (λ byte. byte == 44) word))
    (λ numbers are. chosen (nat_le (length numbers) LEVELS && nat_le (sum numbers) (2 ^ 63 - 1)) AreSome (Some numbers) None are tt)

level_setting : (words : List (List ℕ)) → IfSome (levels_in words) (λ said. AreSome said.capacities)
level_setting [] = tt
level_setting (word ∷ words) =
    chained (λ capacities. option_map (with capacities) (sizes_in words)) AreSome (λ (said : NamedLevels). AreSome said.capacities) (capacities_in word) (held word)
    (λ capacities are. mapped (with capacities) (λ (said : NamedLevels). AreSome said.capacities) (sizes_in words) (every (AreSome capacities) (sizes_in words) are)) where
      with : List ℕ → List NamedSize → NamedLevels
      with capacities named = record { capacities = capacities; named = named }

-- what is asked for by what words say
asking : {A : Type 0} (ask : A → Request) (IsSo : A → Type 0) (o : Option A) → IfSome o IsSo → ((said : A) → IsSo said → IsFormed (ask said) (ask said).work) → AreFormed (option_map ask o)
asking ask IsSo None so formed = tt
asking ask IsSo (Some said) so formed = formed said so

parallel : (files words : List (List ℕ)) → AreFormed (sharing_in files words)
parallel files [] = tt
parallel files (word ∷ words) =
    chained (λ p. option_map (sharing files p) (setting_in words)) (λ p. 1 ≤ p) (λ (r : Request). IsFormed r r.work) (processors_in word) (processor word)
    (λ p some. asking (sharing files p) (λ (said : NamedSetting). 1 ≤ said.s) (setting_in words) (setting words) (λ said fine. (some, fine)))

sized : (command : List ℕ) (files words : List (List ℕ)) → AreFormed (sized_request command files words)
sized command files words =
    let IsSo : Request → Type 0 = λ r. IsFormed r r.work in
    let climb = if bytes_eq command (codes "climb") then option_map (climbing files) (levels_in words) else None in
    let level = if bytes_eq command (codes "levels") then option_map (levelling files) (levels_in words) else climb in
    let share = if bytes_eq command (codes "parallel") then sharing_in files words else level in
    let play = if bytes_eq command (codes "replay") then option_map (replay files) (setting_in words) else share in
    chosen (bytes_eq command (codes "eval")) IsSo (option_map (evaluation files) (setting_in words)) play
    (asking (evaluation files) (λ (said : NamedSetting). 1 ≤ said.s) (setting_in words) (setting words) (λ _ some. some))
    (chosen (bytes_eq command (codes "replay")) IsSo (option_map (replay files) (setting_in words)) share
    (asking (replay files) (λ (said : NamedSetting). 1 ≤ said.s) (setting_in words) (setting words) (λ _ some. some))
    (chosen (bytes_eq command (codes "parallel")) IsSo (sharing_in files words) level (parallel files words)
    (chosen (bytes_eq command (codes "levels")) IsSo (option_map (levelling files) (levels_in words)) climb
    (asking (levelling files) (λ (said : NamedLevels). AreSome said.capacities) (levels_in words) (level_setting words) (λ _ are. are))
    (chosen (bytes_eq command (codes "climb")) IsSo (option_map (climbing files) (levels_in words)) None
    (asking (climbing files) (λ (said : NamedLevels). AreSome said.capacities) (levels_in words) (level_setting words) (λ _ _. tt)) tt))))

sample : (words : List (List ℕ)) → AreFormed (sample_in words)
sample [] = tt
sample (products ∷ []) = asking sampling (λ _. ⊤) (products_in products) (every ⊤ (products_in products) tt) (λ _ _. refl)
sample (products ∷ word ∷ words) = tt

other : (command : List ℕ) (words : List (List ℕ)) → AreFormed (other_request command words)
other command words =
    let IsSo : Request → Type 0 = λ r. IsFormed r r.work in
    let sizes = sized_request command (take 2 words) (drop 2 words) in
    chosen (bytes_eq command (codes "traffic")) IsSo (traffic_in words) (if bytes_eq command (codes "sample") then sample_in words else sizes)
    (asking (traffic (take 3 words)) (λ _. ⊤) (setting_in (drop 3 words)) (every ⊤ (setting_in (drop 3 words)) tt) (λ _ _. tt))
    (chosen (bytes_eq command (codes "sample")) IsSo (sample_in words) sizes (sample words) (sized command (take 2 words) (drop 2 words)))

named : (count : ℕ) (work : Work) (words : List (List ℕ)) → (length words ≡ count → IsFormed (record { files = words; work = work }) work) → AreFormed (work_on count work words)
named count work words formed = by (length words == count) refl where
  by : (b : Bool) → (length words == count) ≡ b → AreFormed (if b then Some (record { files = words; work = work }) else None)
  by true e = formed (eqb-true (length words) count e)
  by false e = tt

request : (words : List (List ℕ)) → AreFormed (request_in words)
request [] = tt
request (command ∷ words) =
    let IsSo : Request → Type 0 = λ r. IsFormed r r.work in
    let others = other_request command words in
    chosen (bytes_eq command (codes "check")) IsSo (work_on 2 (judges checks) words) (if bytes_eq command (codes "bound") then work_on 1 bounds words else others)
    (named 2 (judges checks) words (λ _. tt))
    (chosen (bytes_eq command (codes "bound")) IsSo (work_on 1 bounds words) others (named 1 bounds words (λ one. one)) (other command words))

pub formed : (words : List (List ℕ)) (r : Request) → request_of words ≡ Some r → IsFormed r r.work
formed words r asks = subst AreFormed asks (chosen (list_any begins_with_dash words) (λ (q : Request). IsFormed q q.work) None (request_in words) tt (request words))

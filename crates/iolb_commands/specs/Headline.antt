-- What status 0 says, in the words of programs, certificates, schedules, pebblings and bounds.
use Rattle.std.specs.Prelude.{◌≡◌, ℕ, ◌+◌, ◌≤◌, ℤ, List, Some}
use Rattle.iolb_model.specs.declared.game.Move.{Move}
use Rattle.iolb_model.specs.Bound.{IsAdmitted}
use Rattle.iolb_model.specs.Game.{IsCompletePebbling, loads}
use Rattle.iolb_model.specs.Graph.{computation_graph}
use Rattle.iolb_model.specs.Headline.{BoundHolds}
use Rattle.iolb_model.specs.Printed.{bound_text}
use Rattle.iolb_model.specs.Program.{AffineProgram}
use Rattle.iolb_model.specs.Tower.{IsCompleteTower}
use Rattle.iolb_model.specs.declared.tower.TowerMove.{TowerMove}
use Rattle.affine_c.specs.Products.{product_program}
use Rattle.find_terms.specs.Made.{IsMadeFor}
use Rattle.iolb_cert.specs.OneCertificate.{HasCertificate}
use Rattle.iolb_check.specs.Claims.{CertificateClaim, claim_of_certificate}
use Rattle.iolb_check.specs.Limits.{CertificateParts}
use Rattle.command_words.specs.Requests.{Request, Task, Work, judges, replays, climbs, bounds_traffic, bounds, samples, file_at, request_of}
use Rattle.command_words.specs.Sizes.{NamedSize, values_for}
use Rattle.pebble_replay.specs.Played.{played}
use Rattle.tile_sched.specs.declared.schedule.Key.{Key}
use Rattle.tile_sched.specs.Order.{IsOrder, said}
use Rattle.tile_sched.specs.Lines.{play_text}
use Rattle.iolb_check.specs.declared.bound.Value.{Value}
use Rattle.iolb_commands.specs.Bounded.{IsKeptShort, IsOfMaker}
use Rattle.iolb_commands.specs.Held.{HoldsCertificate, HoldsMoves, HoldsProgram, HoldsSchedule, HoldsStores}
use Rattle.iolb_commands.specs.Outcome.{Call}
use Rattle.iolb_commands.specs.Sampled.{IsGreatestNarrow, IsOfOne, IsOfSeveral, sample_memory, sample_sizes, sample_text}
use Rattle.iolb_commands.specs.Task.{IsAnswer, LoadsAtLeast, bound_with}
use Rattle.iolb_commands.specs.Traffic.{traffic_loads, traffic_stores}
use Rattle.iolb_commands.specs.Use.{CallUse, FilesStay, Gains, Stays}
use Rattle.iolb_check.specs.Conditions.{MeetsConditions}
use Rattle.iolb_commands.specs.Values.{climb_text, traffic_text}
use Rattle.poly_tree.specs.Poly.{Quotient}
use Rattle.store_bound.specs.Conditions.{MeetStores}
use Rattle.store_bound.specs.Faults.{MakesTraffic}
use Rattle.store_bound.specs.Values.{IsWideTraffic}
use Rattle.store_terms.specs.Claims.{StoresClaim}

-- A request with a task for a certificate. Its first file holds a text that means a program, and the second that of a
-- certificate, which meets the conditions for the program. (Where the files don't tell what they hold, this says that there
-- are such contents.) The bound has the program's assumptions and for each term the value that the conditions give, and it
-- holds: for all parameter values that meet the assumptions, of any size, and every S of at least 1, every complete red-blue
-- pebbling of the program's computation graph with S red pebbles, without recomputation, makes at least as many loads as the
-- bound's value. The output has gained exactly the answer: for `check` the text of the bound, and for `eval` the values of
-- its branches and its own value V at the sizes and the S of the words, where the sizes meet the assumptions and no value is
-- beyond 128 bits; so every complete pebbling at these sizes and this S makes at least V loads. For `parallel` it is the
-- bound's value V for the P processors of the words: in every complete parallel pebbling with P processors and S red pebbles
-- for each, some processor makes at least V loads. For `levels` it is a value for each boundary of the words' levels: every
-- complete play over them brings at least so many words over it.
pub record IsLowerBoundPrinted (call : Call) (left : CallUse) (request : Request) (task : Task) : Type 0 where
  pub program : AffineProgram
  pub holds_program : HoldsProgram call.files (file_at request.files 0) program
  pub certificate : CertificateClaim
  pub holds_certificate : HoldsCertificate call.files (file_at request.files 1) certificate
  pub values : List (List Value)
  pub valid : MeetsConditions program certificate values
  pub holds : BoundHolds program (bound_with program values)
  pub text : List ℕ
  pub answer : IsAnswer task program values text
  pub printed : Gains left.output text
  pub error_stays : Stays left.error
  pub loads_at_least : LoadsAtLeast task program values

-- A request to play a schedule. Its first file holds a text that means a program, and the second that of a schedule of it. The
-- sizes of the words meet the assumptions, and the moves are those of the schedule's order on the program's computation
-- graph at these sizes with the S red pebbles of the words: a complete pebbling. The output has gained exactly their lines,
-- and how many of them load, store and compute.
pub record IsPlayPrinted (call : Call) (left : CallUse) (request : Request) (s : ℕ) (named : List NamedSize) : Type 0 where
  pub program : AffineProgram
  pub holds_program : HoldsProgram call.files (file_at request.files 0) program
  pub schedule : List (List Key)
  pub holds_schedule : HoldsSchedule call.files (file_at request.files 1) program schedule
  pub sizes : List ℤ
  pub given : values_for program.parameters named ≡ Some sizes
  pub admitted : IsAdmitted program sizes
  pub order : List ℕ
  pub order_is : IsOrder (said program sizes schedule) order
  pub moves : List Move
  pub plays : moves ≡ played (computation_graph program sizes) s order
  pub complete : IsCompletePebbling (computation_graph program sizes) s moves
  pub printed : Gains left.output (play_text moves)
  pub error_stays : Stays left.error

-- A request to play moves over levels of memory. Its first file holds a text that means a program, and the second the lines of the
-- moves. The sizes of the words meet the assumptions, and the moves are a complete play on the program's computation graph at
-- these sizes, over fast levels with the capacities of the words. The output has gained exactly a line for each boundary: how many
-- words the moves bring over it, and how many they send.
pub record IsClimbPrinted (call : Call) (left : CallUse) (request : Request) (capacities : List ℕ) (named : List NamedSize) : Type 0 where
  pub program : AffineProgram
  pub holds_program : HoldsProgram call.files (file_at request.files 0) program
  pub moves : List TowerMove
  pub holds_moves : HoldsMoves call.files (file_at request.files 1) moves
  pub sizes : List ℤ
  pub given : values_for program.parameters named ≡ Some sizes
  pub admitted : IsAdmitted program sizes
  pub complete : IsCompleteTower (computation_graph program sizes) capacities moves
  pub printed : Gains left.output (climb_text capacities moves)
  pub error_stays : Stays left.error

-- A request to bound loads and stores together. Its first file holds a text that means a program, the second that of a certificate,
-- which meets the conditions for the program, and the third that of stores, which meet their conditions beside both. The sizes of the
-- words meet the assumptions, and nothing is beyond 128 bits. The output has gained exactly the value L of the certificate's bound, the
-- value V of the stores, and their sum: every complete pebbling of the program's computation graph at these sizes with the S red
-- pebbles of the words makes at least L loads and at least V stores, so at least L + V of both together.
pub record IsTrafficPrinted (call : Call) (left : CallUse) (request : Request) (s : ℕ) (named : List NamedSize) : Type 0 where
  pub program : AffineProgram
  pub holds_program : HoldsProgram call.files (file_at request.files 0) program
  pub certificate : CertificateClaim
  pub holds_certificate : HoldsCertificate call.files (file_at request.files 1) certificate
  pub stores : StoresClaim
  pub holds_stores : HoldsStores call.files (file_at request.files 2) stores
  pub values : List (List Value)
  pub valid : MeetsConditions program certificate values
  pub counts : List Quotient
  pub met : MeetStores program certificate stores counts
  pub sizes : List ℤ
  pub given : values_for program.parameters named ≡ Some sizes
  pub admitted : IsAdmitted program sizes
  pub least_loads : ℕ
  pub loads_are : least_loads ≡ traffic_loads program values sizes s
  pub least_stores : ℕ
  pub stores_are : least_stores ≡ traffic_stores certificate stores values counts sizes s
  pub narrow : ¬ IsWideTraffic sizes s values counts (least_loads + least_stores)
  pub at_least : MakesTraffic program sizes s least_loads least_stores
  pub printed : Gains left.output (traffic_text least_loads least_stores)
  pub error_stays : Stays left.error

-- A request for a certificate. Its file holds a text that means a program. The output has gained exactly the text of a
-- certificate, which meets the conditions for the program, and the standard error exactly the text of its bound, which has the
-- program's assumptions and for each term the value that the conditions give. The bound holds. For a projective
-- program with a cover in reach the certificate is that of the cover, with the least exponent of all rational covers; for every other
-- one the first branch is the opening one, or no read is plain, and the text has at most 64 MiB, or nothing more can be left out of it.
-- The text is the one that the certificate is written as: compact JSON, the keys of each object in byte order, and a newline at the end.
pub record IsCertificatePrinted (call : Call) (left : CallUse) (request : Request) : Type 0 where
  pub program : AffineProgram
  pub holds_program : HoldsProgram call.files (file_at request.files 0) program
  pub certificate : CertificateClaim
  pub text : List ℕ
  pub text_is : HasCertificate text certificate
  pub values : List (List Value)
  pub valid : MeetsConditions program certificate values
  pub holds : BoundHolds program (bound_with program values)
  pub printed : Gains left.output text
  pub noted : Gains left.error (bound_text program.parameters (bound_with program values))
  pub made : IsOfMaker program certificate text

-- A request for so many matrix products. There is a certificate of their program, made as for a request for one, which meets the
-- conditions. The output has gained exactly the number of products and a value V: the greatest of the certificate's branches that
-- aren't beyond 128 bits, with 64 red pebbles for matrices of 64 by 64 numbers, so every complete pebbling makes at least V loads
-- there. Of one product the certificate is that of a projective program, no branch is beyond 128 bits, and V is the value of its bound; of
-- two or more V is at least 4096, the numbers of a matrix, times the lesser of 16 and twice the number of products.
pub record IsSamplePrinted (left : CallUse) (products : ℕ) : Type 0 where
  pub certificate : CertificateParts
  pub values : List (List Value)
  pub valid : MeetsConditions (product_program products) (claim_of_certificate certificate) values
  pub made : IsMadeFor (product_program products) certificate
  pub short : IsKeptShort (product_program products) certificate
  pub value : ℕ
  pub greatest : IsGreatestNarrow values sample_sizes sample_memory value
  pub at_least : (moves : List Move) → IsCompletePebbling (computation_graph (product_program products) sample_sizes) sample_memory moves → value ≤ loads moves
  pub one : IsOfOne products certificate values value
  pub several : IsOfSeveral products value
  pub printed : Gains left.output (sample_text products value)
  pub error_stays : Stays left.error

-- what was asked for
abbrev pub IsPrinted : Call → CallUse → Request → Work → Type 0
IsPrinted call left request (judges task) = IsLowerBoundPrinted call left request task
IsPrinted call left request (replays s named) = IsPlayPrinted call left request s named
IsPrinted call left request (climbs capacities named) = IsClimbPrinted call left request capacities named
IsPrinted call left request (bounds_traffic s named) = IsTrafficPrinted call left request s named
IsPrinted call left request bounds = IsCertificatePrinted call left request
IsPrinted call left request (samples products) = IsSamplePrinted left products

-- The words make a request, and what it asks for was printed, with nothing else. No read and no write had a fault.
pub record IsDoneAsAsked (call : Call) (left : CallUse) : Type 0 where
  pub request : Request
  pub asked : request_of call.words ≡ Some request
  pub printed : IsPrinted call left request request.work
  pub read : FilesStay left.files

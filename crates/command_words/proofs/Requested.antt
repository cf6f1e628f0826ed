-- Words behind a command, cut behind the names of files.
use Rattle.std.proofs.Common.{◌≡◌, sym, ◌∙◌, ap, ℕ, ◌-◌, Bool, true, false, List, ◌∷◌, length, take, drop, String, Global}
use Rattle.std.specs.Prelude.{Option, None, bytes_eq, codes, if◌then◌else◌, option_map, string_bytes}
use Rattle.std.specs.List.{list_any}
use Rattle.std.proofs.lemmas.List.{drop-map, take-map, take_rest}
use Rattle.command_words.specs.Requests.{Request, begins_with_dash, bounds, bytes_of, checks, judges, other_request, request_in, request_of, sample_in, sized_request, traffic, traffic_in, work_on}
use Rattle.command_words.specs.Settings.{setting_in}

-- words cut behind the names of three files
pub traffic_parted : (words : List (String Global)) → option_map (traffic (bytes_of (take 3 words))) (setting_in (bytes_of (take (length words - 3) (drop 3 words)))) ≡ traffic_in (bytes_of words)
traffic_parted words =
    ap (λ (files : List (List ℕ)). option_map (traffic files) (setting_in (bytes_of (take (length words - 3) (drop 3 words))))) (sym (take-map (λ word. string_bytes word) 3 words))
    ∙ ap (λ (rest : List (List ℕ)). option_map (traffic (take 3 (bytes_of words))) (setting_in rest)) (ap bytes_of (take_rest words 3) ∙ sym (drop-map (λ word. string_bytes word) 3 words))

-- what words ask for whose command is neither `check` nor `bound`
pub other : (words : List (String Global)) (command : List ℕ) (arguments : List (String Global)) → bytes_of words ≡ command ∷ bytes_of arguments
    → list_any begins_with_dash (bytes_of words) ≡ false → bytes_eq command (codes "check") ≡ false → bytes_eq command (codes "bound") ≡ false
    → other_request command (bytes_of arguments) ≡ request_of (bytes_of words)
other words command arguments are dashless no_check no_bound =
    let rest = bytes_of arguments in
    let others : Option Request = other_request command rest in
    sym (ap (λ (dash : Bool). if dash then None else request_in (bytes_of words)) dashless ∙ ap request_in are
    ∙ ap (λ (check : Bool). if check then work_on 2 (judges checks) rest else (if bytes_eq command (codes "bound") then work_on 1 bounds rest else others)) no_check
    ∙ ap (λ (bound : Bool). if bound then work_on 1 bounds rest else others) no_bound)

module _ (command : List ℕ) (words : List (String Global)) where
  -- it is `traffic`
  pub asks_traffic : bytes_eq command (codes "traffic") ≡ true → traffic_in (bytes_of words) ≡ other_request command (bytes_of words)
  asks_traffic is =
      let rest = bytes_of words in
      sym (ap (λ (traffic : Bool). if traffic then traffic_in rest else (if bytes_eq command (codes "sample") then sample_in rest else sized_request command (take 2 rest) (drop 2 rest))) is)

  module _ (no_traffic : bytes_eq command (codes "traffic") ≡ false) where
    -- it is `sample`, or one of the commands on two files
    either : (if bytes_eq command (codes "sample") then sample_in (bytes_of words) else sized_request command (take 2 (bytes_of words)) (drop 2 (bytes_of words)))
        ≡ other_request command (bytes_of words)
    either =
        let rest = bytes_of words in
        sym (ap (λ (traffic : Bool). if traffic then traffic_in rest else (if bytes_eq command (codes "sample") then sample_in rest else sized_request command (take 2 rest) (drop 2 rest))) no_traffic)

    pub asks_sample : bytes_eq command (codes "sample") ≡ true → sample_in (bytes_of words) ≡ other_request command (bytes_of words)
    asks_sample is =
        let rest = bytes_of words in
        sym (ap (λ (sample : Bool). if sample then sample_in rest else sized_request command (take 2 rest) (drop 2 rest)) is) ∙ either

    pub parted : bytes_eq command (codes "sample") ≡ false
        → sized_request command (bytes_of (take 2 words)) (bytes_of (take (length words - 2) (drop 2 words))) ≡ other_request command (bytes_of words)
    parted no_sample =
        let rest = bytes_of words in
        ap (λ (files : List (List ℕ)). sized_request command files (bytes_of (take (length words - 2) (drop 2 words)))) (sym (take-map (λ word. string_bytes word) 2 words))
        ∙ ap (sized_request command (take 2 rest)) (ap bytes_of (take_rest words 2) ∙ sym (drop-map (λ word. string_bytes word) 2 words))
        ∙ sym (ap (λ (sample : Bool). if sample then sample_in rest else sized_request command (take 2 rest) (drop 2 rest)) no_sample) ∙ either

-- What a request asks for fits.
use Rattle.std.proofs.Common.{◌≡◌, ℕ, Bool, true, false, not, ◌&&◌, ◌||◌, List, refl, ap, ◌∙◌}
use Rattle.std.proofs.lemmas.Bool.{and_from}
use Rattle.fancy_meaning.specs.Options as plain
use Rattle.fancy_meaning.specs.Places.{is_place}
use Rattle.fancy_info.specs.declared.context.AnalyzeContext.{AnalyzeContext}
use Rattle.fancy_compile.specs.declared.options.CompileOptions.{CompileOptions}
use Rattle.fancy_steps.specs.Tasks.{options_of as run_options_of}
use Rattle.fancy_search.specs.declared.request.Request.{Request}
use Rattle.fancy_search.specs.declared.search.SearchOptions.{SearchOptions}
use Rattle.fancy_search.specs.Requests.{analysis, compilation, running}
use Rattle.fancy_search.specs.Searches.{options_fit, search_fits}

none_or : (n : Bool) → (not n || n) ≡ true
none_or true = refl
none_or false = refl

pub request_fits : (r : Request) (text : List ℕ) (s : SearchOptions) → s.analysis ≡ analysis r → s.compilation ≡ compilation r →
    run_options_of s.run ≡ running r → is_place text r.pos ≡ true → search_fits s text ≡ true
request_fits r text s as_analysed as_compiled as_run at =
    let fits : AnalyzeContext → CompileOptions → plain.RunOptions → Bool = λ x c o. options_fit x c && not x.explicit_capture_group_0
    && is_place text o.pos && (not o.not_empty || x.find_not_empty) && (not o.leftmost_longest || x.leftmost_longest) in
    ap (λ (x : AnalyzeContext). fits x s.compilation (run_options_of s.run)) as_analysed
    ∙ ap (λ (x : CompileOptions). fits (analysis r) x (run_options_of s.run)) as_compiled
    ∙ ap (λ (x : plain.RunOptions). fits (analysis r) (compilation r) x) as_run
    ∙ and_from (options_fit (analysis r) (compilation r) && true && is_place text r.pos && (not r.not_empty || r.not_empty)) (not r.longest || r.longest)
    (and_from (options_fit (analysis r) (compilation r) && true && is_place text r.pos) (not r.not_empty || r.not_empty)
    (and_from (options_fit (analysis r) (compilation r) && true) (is_place text r.pos)
    (and_from (options_fit (analysis r) (compilation r)) true (none_or r.end_text) refl) at) (none_or r.not_empty)) (none_or r.longest)

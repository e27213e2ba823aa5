pub mod SqlScripts
